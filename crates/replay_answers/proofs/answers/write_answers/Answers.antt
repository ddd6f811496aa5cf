use Prim.Native.Nat.{◌≤◌}
use native.Mathlib.Omega.{arith}
use mathlib.Core.Path.{◌≡◌, subst}
use lib.ListN.{length, length-take}
use borrow.Author.Rules.{rules}
use Rattle.text_numbers.specs.Inner.{Put}
use Rattle.text_numbers.proofs.Writing.{put_none}
use Rattle.basics.proofs.Arrays.{length_mapped}
use Rattle.replay_answers.specs.Answers.{answers_text}
use Rattle.replay_answers.specs.Inner.{kept_at}
use Rattle.replay_answers.proofs.AnswerLaws.{text_length, text_rises, kept_front, line_put}
use Rattle.replay_answers.proofs.answers.write_answers.Goals as goal

pub loop-i-init : goal.loop-i-init
unfolding answers_text
loop-i-init c = put_none _ _

pub append_answer-at-requires : goal.append_answer-at-requires
append_answer-at-requires c =
    let n : c.loop-i.i ≤ c.args.n = omega (arith, length-take c.args.n c.args.answers) in
    let f = kept_at c.args.answers in
    let h : c.loop-i.at ≤ length c.loop-i.out = omega (arith, c.loop-i.invariant.after, text_rises f c.loop-i.i c.args.n n, c.requires.1) in
    (h, omega (arith, c.loop-i.invariant.after, text_length f c.loop-i.i))

pub loop-i-preserved : goal.loop-i-preserved
loop-i-preserved c = line_put (kept_at c.args.answers) c.loop-i.i c.loop-i.at c.append_answer-at.result (kept_front _ _ _ _ c.loop-i-test.true) c.loop-i.invariant c.append_answer-at.ensures

pub returns : goal.returns
returns c =
    let size : length c.args.answers ≡ 256 = search (rules, length_mapped) in
    let e : c.loop-i.i ≡ c.args.n = omega (arith, length-take c.args.n c.args.answers) in
    subst (λ k. Put (answers_text (kept_at c.args.answers) k) 0 c.args.out.now c.loop-i.at c.loop-i.out) e c.loop-i.invariant
