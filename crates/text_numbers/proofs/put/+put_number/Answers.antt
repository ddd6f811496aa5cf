use Prim.Native.Nat.{◌/◌}
use native.Mathlib.Omega.{arith}
use Rattle.text_numbers.proofs.Print.{print_length}
use Rattle.text_numbers.proofs.Writing.{number_small, number_big}
use Rattle.text_numbers.proofs.put.+put_number.Goals as goal

pub returns-then-v-lt10 : goal.returns-then-v-lt10
returns-then-v-lt10 t c = number_small _ _ _ _ c.if-v-lt10.true c.put_byte.ensures

pub overflow_add-result-2 : goal.overflow_add-result-2
overflow_add-result-2 t c = omega (arith, c.put_number-n.ensures.after, print_length (c.args.v / 10))

pub returns : goal.returns
returns t c = number_big _ _ _ _ _ _ c.if-v-lt10.false (omega arith) c.put_number-n.ensures c.put_byte-2.ensures
