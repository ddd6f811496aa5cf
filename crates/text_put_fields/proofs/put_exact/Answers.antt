use native.Mathlib.Omega.{arith}
use borrow.Author.Rules.{rules}
use Rattle.text_numbers.proofs.Writing.{put_then, print_length}
use Rattle.text_fields.specs.Print.{print_exact}
use Rattle.text_put_fields.proofs.put_exact.Goals as goal

pub returns-in-Any : goal.returns-in-Any
unfolding print_exact
returns-in-Any c = record { put = rw c.in-Any.is (put_then c.put_bytes-n.ensures c.put_bytes.ensures); reach = search rules }

pub returns-in-Is : goal.returns-in-Is
unfolding print_exact
returns-in-Is c = record { put = rw c.in-Is.is (put_then c.put_bytes-n.ensures c.put_number.ensures); reach = omega (arith, print_length c.in-Is.v) }
