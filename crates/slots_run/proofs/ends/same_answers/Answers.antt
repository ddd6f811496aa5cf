use Prim.Native.Nat.{◌<◌}
use native.Mathlib.Omega.{arith}
use mathlib.Core.Path.{◌≡◌, refl, sym, ap, ◌∙◌}
use mathlib.Core.Bool.{false≢true}
use borrow.Author.Rules.{rules}
use Rattle.basics.proofs.Arrays.{length_mapped, holds_more}
use Rattle.replay_answers.specs.Inner.{kept_at}
use Rattle.flow_table.proofs.Derived.{answer_iff}
use Rattle.slots_run.proofs.Comparing.{told}
use Rattle.slots_run.proofs.ends.same_answers.Goals as goal

pub loop-i-init : goal.loop-i-init
loop-i-init c = (search (rules, length_mapped), search (rules, length_mapped), omega arith, λ k l. absurd (omega arith))

pub offset_bounds-a-i : goal.offset_bounds-a-i
offset_bounds-a-i c =
    let in_loop : c.loop-i.i < 256 = omega (arith, c.loop-i-test.true, c.requires) in
    omega (arith, in_loop)

pub bounds-a-i : goal.bounds-a-i
bounds-a-i c =
    let in_loop : c.loop-i.i < 256 = omega (arith, c.loop-i-test.true, c.requires) in
    omega (arith, in_loop, c.loop-i.invariant.0)

pub offset_bounds-b-i : goal.offset_bounds-b-i
offset_bounds-b-i c =
    let in_loop : c.loop-i.i < 256 = omega (arith, c.loop-i-test.true, c.requires) in
    omega (arith, in_loop)

pub bounds-b-i : goal.bounds-b-i
bounds-b-i c =
    let in_loop : c.loop-i.i < 256 = omega (arith, c.loop-i-test.true, c.requires) in
    omega (arith, in_loop, c.loop-i.invariant.1)

pub returns-then-ne : goal.returns-then-ne
returns-then-ne c =
    let differ = told c.ne.ensures c.if-ne.true in
    (λ e. absurd (false≢true e), λ f. absurd (false≢true (sym differ ∙ (answer_iff _ _).1 (f c.loop-i.i c.loop-i-test.true))))

pub loop-i-preserved : goal.loop-i-preserved
loop-i-preserved c =
    let here : kept_at c.args.a c.loop-i.i ≡ kept_at c.args.b c.loop-i.i = (answer_iff _ _).0 (told c.ne.ensures c.if-ne.false) in
    (c.loop-i.invariant.0, c.loop-i.invariant.1, omega (arith, c.loop-i-test.true), holds_more (λ k. kept_at c.args.a k ≡ kept_at c.args.b k) c.loop-i.i here c.loop-i.invariant.3)

pub returns : goal.returns
returns c = (λ e k h. c.loop-i.invariant.3 k (omega (arith, c.loop-i-test.false)), λ f. refl)
