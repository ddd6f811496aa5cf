-- Document 01, "Happens-before": the time rule, as a test and in words. The delay is the caller's. Which line is the later doesn't
-- matter to it.
use Rattle.std.specs.Prelude.{◌≡◌, Bool, false, not, ◌&&◌, List, ℕ, ◌+◌, ◌≤◌, ◌<◌, ltb, length}
use Rattle.trace_events.specs.Types.{Packet, Origin, TableOperation, Operation, Event}
use Rattle.trace_events.specs.Events.{event_at, is_handled, is_received}

-- both are handled by switches, they aren't both `pkt`, and b's `from` minus a's `to` is above the delay
unfoldable pub time_step : ℕ → Event → Event → Bool
time_step delay a b =
    is_handled a.operation && is_handled b.operation && not (is_received a.operation && is_received b.operation)
    && ltb (a.head.to + delay) b.head.from

-- ---- the same in words (proofs/Clocks.antt, `time_step_iff`)
-- a packet that the switch received
pub data IsPkt : Operation → Type 0 where
  pkt : {w : ℕ} {p : Packet} → IsPkt (Operation.Table w (TableOperation.Packet Origin.Received p))

-- the two are handled by switches, and not both are `pkt`: the time rule is about them
pub record Clocked (o p : Operation) : Type 0 where
  pub first : o ≡ Operation.Other → ⊥
  pub second : p ≡ Operation.Other → ⊥
  pub packets : IsPkt o → IsPkt p → ⊥

-- b's `from` minus a's `to` is above the delay
pub record TimeSteps (delay : ℕ) (a b : Event) : Type 0 where
  pub clocked : Clocked a.operation b.operation
  pub later : a.head.to + delay < b.head.from

-- a true time of an event: in its range
pub record TimeOf (e : Event) (x : ℕ) : Type 0 where
  pub earliest : e.head.from ≤ x
  pub latest : x ≤ e.head.to

-- every choice of true times puts b later than a by more than the delay (`time_rule_iff`: the rule holds exactly then)
abbrev pub SurelyLater : ℕ → Event → Event → Type 0
SurelyLater delay a b = (x y : ℕ) → TimeOf a x → TimeOf b y → x + delay < y

-- the clocks of a trace: no range is empty (54), and the time rule puts no later line before an earlier one (55)
pub record InLineOrder (delay : ℕ) (es : List Event) : Type 0 where
  pub ranges : (i : ℕ) → i < length es → (event_at es i).head.from ≤ (event_at es i).head.to
  pub forward : (i j : ℕ) → i < j → j < length es → time_step delay (event_at es j) (event_at es i) ≡ false
