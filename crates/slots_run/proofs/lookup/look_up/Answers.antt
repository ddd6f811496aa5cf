use mathlib.Core.Path.{◌∙◌, subst}
use Rattle.std.specs.Prelude.{Some, None}
use Rattle.bit_sets.specs.Inner.{NextFrom}
use Rattle.slots_run.proofs.Looking.{look_turn, look_end}
use Rattle.slots_run.proofs.lookup.look_up.Goals as goal

pub loop-i-preserved : goal.loop-i-preserved
loop-i-preserved c =
    let step = c.in-Some.ensures.steps in
    let found = subst (λ z. NextFrom z c.loop-i.i-iterator.from (Some c.in-Some.i)) c.loop-i.invariant.0 step.found in
    (step.set ∙ c.loop-i.invariant.0, rw step.past (look_turn _ _ _ _ _ c.loop-i.invariant.1 _ c.in-Some.i found c.seen-more.ensures.0 c.seen-more.ensures.1))

pub returns : goal.returns
returns c =
    let found = subst (λ z. NextFrom z c.loop-i.i-iterator.from None) c.loop-i.invariant.0 c.in-None.ensures.steps.found in
    look_end _ _ _ _ _ c.loop-i.invariant.1 found
