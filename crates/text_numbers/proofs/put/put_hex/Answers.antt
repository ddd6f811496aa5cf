use Rattle.text_numbers.specs.Print.{print_hex}
use Rattle.text_numbers.proofs.put.put_hex.Goals as goal

pub returns : goal.returns
unfolding print_hex
returns c = c.put_hex_digits.ensures
