-- The turns of a run on slots: one event more. Assumes nothing.
use mathlib.Core.Path.{◌≡◌}
use mathlib.Core.List.{List, []}
use Prim.Native.Nat.{ℕ, ◌+◌, ◌≤◌, ◌<◌}
use native.Mathlib.Omega.{arith}
use lib.ListN.{length, get_or, set, length-set}
use Rattle.replay_answers.specs.Inner.{kept, kept_at}
use Rattle.order_rows.specs.Runs.{operation_at}
use Rattle.order_rows.proofs.Turns.{ComeTo, come_start, come_turn, rows_done, answers_done}
use Rattle.slots.specs.Inner.{state_rows, Inside, SlotsOf, idle}
use Rattle.slots_run.specs.Types.{Action, Answer, Event, Row, Kept, Operation, Steps, State, Stepped}
use Rattle.slots_run.specs.Inner.{Moment, StepsTo, EndsAs, rows_in}

-- a run of o that has come to place p, for all events whose slots they are
pub record Running (steps : Steps) (o : List ℕ) (start : State) (p : ℕ) (ks : List Kept) (set : List ℕ) (actions : List Action) : Type 0 where
  pub here : p ≤ length o
  pub room : length ks ≡ 256
  pub runs : (es : List Event) (slots : List Row) → SlotsOf es slots steps → Inside slots start.set
      → Inside slots set × ComeTo es o (rows_in slots start) p ks (state_rows slots set actions)

module _ (steps : Steps) (o : List ℕ) (start : State) where
  pub run_start : (ks : List Kept) → length ks ≡ 256 → ((i : ℕ) → kept_at ks i ≡ Answer.Silent) → Running steps o start 0 ks start.set start.actions
  run_start ks r k = record {
    here = omega arith;
    room = r;
    runs = λ es slots s i. (i, come_start es o (rows_in slots start) ks k);
  }

  module _ (p : ℕ) (ks : List Kept) (set₁ : List ℕ) (actions₁ : List Action) (r : Running steps o start p ks set₁ actions₁) where
    -- the slots at the event of place p
    moment : (es : List Event) (slots : List Row) → SlotsOf es slots steps → Inside slots set₁ → get_or o p 0 < 256
        → Moment slots (operation_at es (get_or o p 0)) (get_or steps.masks (get_or o p 0) []) (get_or steps.plans (get_or o p 0) idle) steps.priorities set₁
    moment es slots s i h = record {
      few = s.few;
      sorted = s.sorted;
      step = s.steps (get_or o p 0) h;
      ranks = s.ranks;
      inside = i;
    }

    pub run_turn : p < length o → get_or o p 0 < 256 → (actions₂ : List Action) (v : Stepped)
        → ((slots : List Row) (f : Operation) → Moment slots f (get_or steps.masks (get_or o p 0) []) (get_or steps.plans (get_or o p 0) idle) steps.priorities set₁ → StepsTo slots f set₁ actions₁ actions₂ v)
        → Running steps o start (p + 1) (set ks (get_or o p 0) (kept v.answer)) v.set actions₂
    run_turn h e actions₂ v f = record {
      here = omega arith;
      room = rw length-set r.room;
      runs = λ es slots s i.
          let q = r.runs es slots s i in
          let t = f slots (operation_at es (get_or o p 0)) (moment es slots s q.0 e) in
          (t.inside, come_turn es o (rows_in slots start) p ks (state_rows slots set₁ actions₁) q.1 h (omega (arith, r.room)) (state_rows slots v.set actions₂) v.answer t.rows t.answer);
    }

    -- no event is left
    pub run_end : length o ≤ p → (es : List Event) (slots : List Row) → SlotsOf es slots steps → Inside slots start.set
        → EndsAs es slots o start (record { state = record { set = set₁; actions = actions₁ }; answers = ks })
    run_end h es slots s i =
        let q = r.runs es slots s i in
        record {
          inside = q.0;
          rows = rows_done es o (rows_in slots start) p ks (state_rows slots set₁ actions₁) q.1 h;
          answers = answers_done es o (rows_in slots start) p ks (state_rows slots set₁ actions₁) q.1 h;
        }
