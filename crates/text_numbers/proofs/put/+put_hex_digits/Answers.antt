use Prim.Native.Nat.{◌-◌, ◌/◌}
use native.Mathlib.Omega.{arith}
use Rattle.text_numbers.proofs.Print.{hexadecimal_length}
use Rattle.text_numbers.proofs.Writing.{hex_none, hex_last}
use Rattle.text_numbers.proofs.put.+put_hex_digits.Goals as goal

pub returns-then-k-eq0 : goal.returns-then-k-eq0
returns-then-k-eq0 t c = hex_none _ _ _ _ c.if-k-eq0.true

pub overflow_add-result : goal.overflow_add-result
overflow_add-result t c = omega (arith, c.put_hex_digits-n.ensures.after, hexadecimal_length (c.args.k - 1) (c.args.v / 16))

pub returns : goal.returns
returns t c = hex_last _ _ _ _ _ _ _ _ c.if-k-eq0.false c.put_hex_digits-n.ensures c.hex_digit-d.ensures c.put_byte.ensures
