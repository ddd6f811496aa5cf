use native.Mathlib.Omega.{arith}
use mathlib.Core.Path.{refl, sym, ap, ◌∙◌}
use mathlib.Core.Bool.{false, ◌||◌, or-false}
use lib.ListN.{get_or, length-set, drop_of_length-le, get_or-replicate}
use Rattle.basics.specs.Searches.{has}
use Rattle.order_check.proofs.Flags.{flagged}
use Rattle.order_check.proofs.completeness.flags_of.Goals as goal

pub loop-event-init : goal.loop-event-init
loop-event-init c = (refl, λ i l. rw (get_or-replicate 256 i false false l) refl)

pub loop-event-preserved : goal.loop-event-preserved
loop-event-preserved c = (
  rw (c.from.ensures, length-set) c.loop-event.invariant.0,
  λ i h. rw c.from.ensures (flagged c.loop-event.flags _ c.loop-event.event-index i c.loop-event-test.true (omega arith) ∙ c.loop-event.invariant.1 i h),
)

pub returns : goal.returns
returns c i l = sym (or-false _) ∙ sym (ap (λ o. get_or c.loop-event.flags i false || has i o) (drop_of_length-le _ {i = c.loop-event.event-index} (omega arith))) ∙ c.loop-event.invariant.1 i l
