use borrow.Author.Tests.{lt-ltb, le-ltb}
use Rattle.text_numbers.specs.Print.{hex_digit}
use Rattle.text_numbers.proofs.put.hex_digit.Goals as goal

pub returns-then-n-lt10 : goal.returns-then-n-lt10
unfolding hex_digit
returns-then-n-lt10 c = simp (lt-ltb _ _ c.if-n-lt10.true)

pub returns-else-n-lt10 : goal.returns-else-n-lt10
unfolding hex_digit
returns-else-n-lt10 c = simp (le-ltb _ _ c.if-n-lt10.false)
