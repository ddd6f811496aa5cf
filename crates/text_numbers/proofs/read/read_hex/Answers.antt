use Rattle.std.proofs.Common.{◌≡◌, ◌+◌, ◌*◌, ◌^◌, ◌<◌, get_or, sym, ◌∙◌, arith, None, Some, add_assoc}
use Rattle.std.proofs.lemmas.Grind.{common_steps}
use Rattle.text_numbers.specs.Number.{hex_value, read_hex}
use Rattle.text_numbers.proofs.HexLaws.{hex_short, hex_end, hex_none, hex_more, hex_grows, hex_fits, digit_value}
use Rattle.text_numbers.proofs.read.read_hex.Goals as goal

pub returns-in_err-get : goal.returns-in_err-get
returns-in_err-get c = c.from_residual.ensures ∙ sym (hex_short _ _ (grind (arith, common_steps)))

pub returns-in_err-digits : goal.returns-in_err-digits
returns-in_err-digits c = c.from_residual-in_err-digits.ensures ∙ sym (hex_short _ _ (grind (arith, common_steps)))

pub loop-b-init : goal.loop-b-init
unfolding read_hex
loop-b-init c = record { fits = omega arith; same = grind (arith, common_steps) }

pub overflow_mul-value : goal.overflow_mul-value
overflow_mul-value c =
    let fits : c.loop-b.value * 16 + 0 < 2 ^ 32 = hex_fits _ _ _ c.loop-b.invariant.fits (omega arith) c.loop-b-test.true in
    omega arith

pub returns-in_err-hex_value : goal.returns-in_err-hex_value
returns-in_err-hex_value c =
    let digit : hex_value (get_or c.args.s.now (c.args.at + c.loop-b.b-index) 0) ≡ None = grind (arith, common_steps) in
    c.from_residual-in_err-hex_value.ensures ∙ sym (c.loop-b.invariant.same ∙ hex_none _ _ _ _ c.loop-b-test.true digit)

pub overflow_add-value : goal.overflow_add-value
overflow_add-value c =
    let digit : hex_value (get_or c.args.s.now (c.args.at + c.loop-b.b-index) 0) ≡ Some c.from.result = grind (arith, common_steps) in
    let fits : c.loop-b.value * 16 + c.from.result < 2 ^ 32 = hex_fits _ _ _ c.loop-b.invariant.fits (digit_value _ _ digit).0 c.loop-b-test.true in
    omega arith

pub loop-b-preserved : goal.loop-b-preserved
loop-b-preserved c =
    let digit : hex_value (get_or c.args.s.now (c.args.at + c.loop-b.b-index) 0) ≡ Some c.from.result = grind (arith, common_steps) in
    record {
      fits = hex_grows _ _ _ c.loop-b.invariant.fits (digit_value _ _ digit).0;
      same = c.loop-b.invariant.same ∙ hex_more _ _ _ _ c.loop-b-test.true _ digit ∙ rw add_assoc;
    }

pub returns : goal.returns
returns c =
    let all : c.loop-b.b-index ≡ 8 = omega arith in
    rw (← all) (sym (c.loop-b.invariant.same ∙ hex_end _ _ _ _ c.loop-b-test.false))
