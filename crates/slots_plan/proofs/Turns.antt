-- What the passes over a trace's events share: the work of the event, and one element more that is stored. Assumes nothing.
use mathlib.Core.Path.{◌≡◌, sym, ap, ◌∙◌}
use mathlib.Core.Bool.{cond}
use mathlib.Core.List.{List}
use Prim.Native.Nat.{ℕ, ◌+◌, ◌<◌}
use native.Mathlib.Decide.{ℕ_discrete}
use native.Mathlib.Omega.{arith}
use lib.Dec.{ltb}
use lib.ListN.{length, get_or, set}
use lib.Seq.{set-get_or, get_or-set_same, get_or-set_other}
use Rattle.flow_table.specs.FlowTable.{effect_of}
use Rattle.flow_table.specs.Switches.{switch_of}
use Rattle.rows_step.specs.Inner.{work_of}
use Rattle.trace_events.specs.Events.{events_of, no_event}
use Rattle.order_run.proofs.RunLaws.{operation_here}
use Rattle.slots_plan.specs.Types.{Operation, Trace, Work}
use Rattle.slots_plan.specs.Inner.{work_at}

-- the work is that of event e
pub work_here : (t : Trace) (e : ℕ) {o : Operation} {w : Work} → o ≡ cond (ltb e t.len) (get_or t.events e no_event).operation Operation.Other
    → w ≡ work_of (switch_of o) (effect_of o) → w ≡ work_at (events_of t) e
work_here t e p q = q ∙ ap (λ o. work_of (switch_of o) (effect_of o)) (p ∙ operation_here t e)

module _ {A : Type 0} where
  -- what holds of each element below k, and of the one stored at k
  pub stored_more : (P : ℕ → A → Type 0) (d : A) (l : List A) (k : ℕ) {x : A} → k < length l → P k x → ((i : ℕ) → i < k → P i (get_or l i d))
      → (i : ℕ) → i < k + 1 → P i (get_or (set l k x) i d)
  stored_more P d l k {x} room p h i m =
      elim (ℕ_discrete i k) [ yes u ↦ rw (u, get_or-set_same l k x d room) p | no ne ↦ rw (get_or-set_other l k i x d ne) (h i (omega arith)) ]

  -- below its length a list has no default
  pub get_d_any : (l : List A) (i : ℕ) (d e : A) → i < length l → get_or l i d ≡ get_or l i e
  get_d_any l i d e h = ap (λ (m : List A). get_or m i d) (sym (set-get_or l i e)) ∙ get_or-set_same l i (get_or l i e) d h
