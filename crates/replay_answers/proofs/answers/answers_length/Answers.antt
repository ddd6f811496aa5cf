use native.Mathlib.Omega.{arith}
use mathlib.Core.Path.{◌≡◌, refl, ap, ◌∙◌}
use lib.ListN.{length, length-take}
use borrow.Author.Rules.{rules}
use Rattle.basics.proofs.Arrays.{length_mapped}
use Rattle.replay_answers.specs.Answers.{answers_text}
use Rattle.replay_answers.specs.Inner.{kept_at}
use Rattle.replay_answers.proofs.AnswerLaws.{text_length, kept_front, counted}
use Rattle.replay_answers.proofs.answers.answers_length.Goals as goal

pub loop-i-init : goal.loop-i-init
unfolding answers_text
loop-i-init c = refl

pub put_answer-at-requires : goal.put_answer-at-requires
put_answer-at-requires c = omega (arith, text_length (kept_at c.args.answers) c.loop-i.i, length-take c.args.n c.args.answers)

pub loop-i-preserved : goal.loop-i-preserved
loop-i-preserved c = counted (kept_at c.args.answers) c.loop-i.i c.loop-i.at c.put_answer-at.result (kept_front _ _ _ _ c.loop-i-test.true) c.loop-i.invariant c.put_answer-at.ensures.after

pub returns : goal.returns
returns c =
    let size : length c.args.answers ≡ 256 = search (rules, length_mapped) in
    let e : c.loop-i.i ≡ c.args.n = omega (arith, length-take c.args.n c.args.answers) in
    c.loop-i.invariant ∙ ap (λ k. length (answers_text (kept_at c.args.answers) k)) e
