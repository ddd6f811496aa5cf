-- The turns of a run: one event more. Assumes nothing.
use mathlib.Core.Path.{◌≡◌, sym, ap, subst}
use mathlib.Core.Bool.{cond}
use mathlib.Core.List.{List}
use Prim.Native.Nat.{ℕ, ◌+◌, ◌≤◌, ◌<◌}
use native.Mathlib.Omega.{arith}
use lib.Dec.{ltb}
use lib.ListN.{length, get_or, set, take, length-set, length-take, get_or-eq_default}
use borrow.Author.Tests.{ltb-true, ltb-false}
use Rattle.basics.proofs.Booleans.{split}
use Rattle.flow_table.specs.FlowTable.{effect_of}
use Rattle.flow_table.specs.Switches.{switch_of}
use Rattle.rows.specs.Rows.{SortedRows}
use Rattle.rows_step.specs.declared.work.Work.{Work}
use Rattle.rows_step.specs.Inner.{work_of, WorkFor}
use Rattle.rows_step.specs.Stepping.{step_rows, answer_rows}
use Rattle.rows_step.proofs.Steps.{sorted_step}
use Rattle.rows_step.proofs.Works.{work_for}
use Rattle.trace_events.specs.Events.{events_of, no_event}
use Rattle.trace_events.proofs.TraceLaws.{event_at_lem}
use Rattle.replay_answers.specs.Inner.{kept, kept_at}
use Rattle.order_rows.specs.Runs.{operation_at}
use Rattle.order_rows.proofs.Turns.{ComeTo, come_start, come_turn}
use Rattle.order_run.specs.Types.{Answer, Event, Trace, Row, Kept, Operation}

-- the operation of an order's byte; nothing where the trace has no such event
pub operation_here : (t : Trace) (e : ℕ) → cond (ltb e t.len) (get_or t.events e no_event).operation Operation.Other ≡ operation_at (events_of t) e
unfolding events_of
operation_here t e =
    split (ltb e t.len)
    (λ u. rw u (sym (ap (λ v. v.operation) (event_at_lem t e (ltb-true e t.len u)))))
    (λ u. rw u (sym (ap (λ v. v.operation) (get_or-eq_default (take t.len t.events) no_event {n = e} (omega (arith, length-take t.len t.events, ltb-false e t.len u))))))

-- the work of an operation
pub work_for_operation : (o : Operation) {w : Work} → w ≡ work_of (switch_of o) (effect_of o) → WorkFor (switch_of o) (effect_of o) w
work_for_operation o q = subst (WorkFor (switch_of o) (effect_of o)) (sym q) (work_for (switch_of o) (effect_of o))

-- a run of o that has come to place p, with its rows in an array
pub record Runs (es : List Event) (o : List ℕ) (start : List Row) (len₀ p : ℕ) (ks : List Kept) (len : ℕ) (l : List Row) : Type 0 where
  pub here : p ≤ length o
  pub room : length ks ≡ 256
  pub count : len ≤ len₀ + p
  pub sorted : SortedRows (take len l)
  pub come : ComeTo es o start p ks (take len l)

module _ (es : List Event) (o : List ℕ) (len : ℕ) (l : List Row) (ks : List Kept) where
  pub run_start : length ks ≡ 256 → ((i : ℕ) → kept_at ks i ≡ Answer.Silent) → SortedRows (take len l) → Runs es o (take len l) len 0 ks len l
  run_start r k q = record {
    here = omega arith;
    room = r;
    count = omega arith;
    sorted = q;
    come = come_start es o (take len l) ks k;
  }

  -- one event more, by the rows that it leaves and its answer
  pub run_turn : (start : List Row) (len₀ p : ℕ) → Runs es o start len₀ p ks len l
      → p < length o → get_or o p 0 < 256 → (len₁ : ℕ) (l₁ : List Row) (a : Answer) → len₁ ≤ len + 1
      → take len₁ l₁ ≡ step_rows (operation_at es (get_or o p 0)) (take len l) → a ≡ answer_rows (operation_at es (get_or o p 0)) (take len l)
      → Runs es o start len₀ (p + 1) (set ks (get_or o p 0) (kept a)) len₁ l₁
  run_turn start len₀ p r h e len₁ l₁ a g f q = record {
    here = omega arith;
    room = rw length-set r.room;
    count = omega (arith, r.count);
    sorted = rw f (sorted_step _ _ r.sorted);
    come = come_turn es o start p ks (take len l) r.come h (omega (arith, r.room)) (take len₁ l₁) a f q;
  }
