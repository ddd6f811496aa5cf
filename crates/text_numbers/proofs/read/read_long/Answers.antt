use Rattle.std.proofs.Common.{sym, ◌∙◌}
use Rattle.text_numbers.specs.Number.{is_digit}
use Rattle.text_numbers.proofs.Readers.{tested}
use Rattle.text_numbers.proofs.Numbers.{number_none, number_digits, number_zero, number_lead}
use Rattle.text_numbers.proofs.read.read_long.Goals as goal

pub returns-then-is_ascii_digit : goal.returns-then-is_ascii_digit
unfolding is_digit
returns-then-is_ascii_digit c =
    sym (number_lead _ _ _ (sym c.byte_at-first.ensures ∙ c.if-first-eq48.true)
    (tested is_digit c.byte_at-second.ensures c.is_ascii_digit.ensures.value c.if-is_ascii_digit.true))

pub returns-else-is_ascii_digit : goal.returns-else-is_ascii_digit
unfolding is_digit
returns-else-is_ascii_digit c =
    sym (number_zero _ _ _ (sym c.byte_at-first.ensures ∙ c.if-first-eq48.true)
    (tested is_digit c.byte_at-second.ensures c.is_ascii_digit.ensures.value c.if-is_ascii_digit.false))

pub returns-then-is_ascii_digit-2 : goal.returns-then-is_ascii_digit-2
unfolding is_digit
returns-then-is_ascii_digit-2 c =
    c.read_digits.ensures
    ∙ sym (number_digits _ _ _ (tested is_digit c.byte_at-first.ensures c.is_ascii_digit-2.ensures.value c.if-is_ascii_digit-2.true)
    (λ e. c.if-first-eq48.false (c.byte_at-first.ensures ∙ e)))

pub returns-else-is_ascii_digit-2 : goal.returns-else-is_ascii_digit-2
unfolding is_digit
returns-else-is_ascii_digit-2 c = sym (number_none _ _ _ (tested is_digit c.byte_at-first.ensures c.is_ascii_digit-2.ensures.value c.if-is_ascii_digit-2.false))
