use mathlib.Core.Path.{◌≡◌, sym, ◌∙◌, subst}
use mathlib.Core.Bool.{false≢true}
use Rattle.std.specs.Prelude.{Some}
use Rattle.bit_sets.specs.Inner.{NextFrom}
use Rattle.flow.proofs.Entries.{action_iff}
use Rattle.flow.proofs.Derived.{action_same}
use Rattle.slots.specs.Inner.{action_at}
use Rattle.slots_run.proofs.Comparing.{told, compare_turn}
use Rattle.slots_run.proofs.ends.same_actions.Goals as goal

pub returns-then-ne : goal.returns-then-ne
returns-then-ne c =
    let found = subst (λ z. NextFrom z c.loop-i.i-iterator.from (Some c.in-Some.i)) c.loop-i.invariant.0 c.in-Some.ensures.steps.found in
    (λ e. absurd (false≢true e), λ f. absurd (false≢true (sym (told c.ne.ensures c.if-ne.true) ∙ action_same _ _ ∙ (action_iff _ _).1 (f c.in-Some.i found.here))))

pub loop-i-preserved : goal.loop-i-preserved
loop-i-preserved c =
    let step = c.in-Some.ensures.steps in
    let found = subst (λ z. NextFrom z c.loop-i.i-iterator.from (Some c.in-Some.i)) c.loop-i.invariant.0 step.found in
    let here : action_at c.args.a.now c.in-Some.i ≡ action_at c.args.b.now c.in-Some.i = (action_iff _ _).0 (sym (action_same _ _) ∙ told c.ne.ensures c.if-ne.false) in
    (step.set ∙ c.loop-i.invariant.0, rw step.past (compare_turn _ _ _ _ c.loop-i.invariant.1 c.in-Some.i found here))
