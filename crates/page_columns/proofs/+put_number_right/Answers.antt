use Prim.Native.Nat.{◌+◌}
use native.Mathlib.Omega.{arith}
use Rattle.text_numbers.specs.Print.{print_number}
use Rattle.text_numbers.specs.Inner.{Put}
use Rattle.page_columns.specs.Columns.{right}
use Rattle.page_columns.proofs.Digits.{small_put, big_put, right_ends, right_bound}
use Rattle.page_columns.proofs.+put_number_right.Goals as goal
use Rattle.page_columns.proofs.+put_number_right.Goals.{then-v-lt10, else-v-lt10}

pub returns : goal.returns
returns t c =
    let before = c.saturating_sub-before.ensures in
    let put : Put (right c.args.width (print_number c.args.v)) c.args.at c.args.out.now (c.if-v-lt10.n + 1) c.put_byte.new.out =
    elim c.if-v-lt10.branch [
      | then-v-lt10 w ↦ small_put _ _ c.put_byte.ensures w.if-v-lt10.true (rw (w.n-is, w.out-is, ← before) w.put_blanks-n.ensures.put)
      | else-v-lt10 w ↦ big_put _ _ c.put_byte.ensures w.if-v-lt10.false (omega arith) (rw (w.n-is, w.out-is, ← before) w.put_number_right-n.ensures.put)
    ] in
    record { put = put; value = right_ends _ _ put; upper_bound = right_bound _ _ put c.requires.1 }
