use mathlib.Core.Path.{sym}
use Rattle.page_columns.proofs.Digits.{digit_blank, digit_there}
use Rattle.page_columns.proofs.digit_or_blank.Goals as goal

pub returns-then-v-power : goal.returns-then-v-power
returns-then-v-power c = sym (digit_blank _ _ c.if-v-power.true)

pub returns : goal.returns
returns c = sym (digit_there _ _ c.if-v-power.false)
