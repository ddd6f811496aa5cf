use Rattle.std.proofs.Common.{◌≡◌, Some, sym, ◌∙◌, arith}
use Rattle.text_numbers.specs.Number.{read_number}
use Rattle.text_numbers.proofs.Numbers.{number_only}
use Rattle.text_numbers.proofs.read.read_number.Goals as goal

-- what is at most max fits
pub overflow_cast-result : goal.overflow_cast-result
overflow_cast-result c =
    let e : read_number c.from.result c.args.s.now c.args.at ≡ Some (c.in_ok-value.value, c.in_ok-value.next) = sym c.read_long.ensures ∙ c.in_ok-value.was in
    omega (arith, (number_only _ _ _ _ _ (omega arith) e).0)
