use Rattle.std.proofs.Common.{◌≡◌, length, drop, sym, ◌∙◌, arith, add_assoc}
use Rattle.std.proofs.lemmas.Grind.{common_steps}
use Rattle.text_numbers.specs.Number.{is_digit}
use Rattle.text_numbers.proofs.Numbers.{digits_end, digits_stop, digits_over, digits_more}
use Rattle.text_numbers.proofs.read.read_digits.Goals as goal

pub returns-then-not-is_ascii_digit : goal.returns-then-not-is_ascii_digit
unfolding is_digit
returns-then-not-is_ascii_digit c =
    let rest : c.unwrap_or-rest.result.now ≡ drop c.args.at c.args.s.now = grind (arith, common_steps) in
    rw (← rest) (sym (c.loop-i.invariant.same ∙ digits_stop _ _ _ _ _ c.loop-i-test.true (sym c.is_ascii_digit.ensures.value ∙ c.if-not-is_ascii_digit.true)))

pub returns-then-limit-value : goal.returns-then-limit-value
unfolding is_digit
returns-then-limit-value c =
    let rest : c.unwrap_or-rest.result.now ≡ drop c.args.at c.args.s.now = grind (arith, common_steps) in
    rw (← rest) (sym (c.loop-i.invariant.same ∙ digits_over _ _ _ _ _ c.loop-i-test.true (sym c.is_ascii_digit.ensures.value ∙ c.if-not-is_ascii_digit.false) (omega arith)))

pub loop-i-preserved : goal.loop-i-preserved
unfolding is_digit
loop-i-preserved c =
    record {
      small = omega arith;
      same = c.loop-i.invariant.same ∙ digits_more _ _ _ _ _ c.loop-i-test.true (sym c.is_ascii_digit.ensures.value ∙ c.if-not-is_ascii_digit.false) (omega arith) ∙ rw (← c.from.ensures, add_assoc);
    }

pub returns : goal.returns
returns c =
    let rest : c.unwrap_or-rest.result.now ≡ drop c.args.at c.args.s.now = grind (arith, common_steps) in
    let over : c.loop-i.i ≡ length c.unwrap_or-rest.result.now = omega arith in
    rw (← rest, ← over) (sym (c.loop-i.invariant.same ∙ digits_end _ _ _ _ _ c.loop-i-test.false))
