-- Document 01, "Many orders": the bytes are those that single replays would lead to.
use Rattle.std.specs.Prelude.{◌≡◌, List, ◌↔◌, ◌⊎◌, ℕ, ◌<◌, length, get_or, Ok, Err}
use Rattle.basics.specs.Searches.{gather}
use Rattle.refusals.specs.Refusals.{number_of}
use Rattle.order_rows.specs.Runs.{recorded}
use Rattle.order_trials.specs.Trials.{order_at}
use Rattle.replay_texts.specs.Writing.{Replayed}
use Rattle.replay_call.specs.Replay.{replayed}
use Rattle.replay_agreement.specs.Allowed.{Allowed}
use Rattle.trials_meaning.specs.Types.{Refusal, Event}

-- a single replay of an order, into buffers of these lengths, is refused by 21 or 22
abbrev pub OrderRefused : ℕ → List ℕ → List ℕ → List ℕ → ℕ → ℕ → Type 0
OrderRefused delay s t o room room' = (r : Refusal) × (replayed delay s t o room room' ≡ Err r) × ((number_of r ≡ 21) ⊎ (number_of r ≡ 22))

-- the byte b of order o
pub record ByteOf (delay : ℕ) (s t : List ℕ) (es : List Event) (o : List ℕ) (b : ℕ) : Type 0 where
  -- 2 exactly if a single replay of the order is refused by 21 or 22, whatever its buffers
  pub two : (room room' : ℕ) → (b ≡ 2) ↔ OrderRefused delay s t o room room'
  -- 0 exactly if the single replays of the order and of the recorded order, where none is refused, write the same two texts
  pub zero : (room room' other other' : ℕ) (x y : Replayed) → replayed delay s t o room room' ≡ Ok x → replayed delay s t (recorded es) other other' ≡ Ok y → (b ≡ 0) ↔ (x ≡ y)
  -- 1 exactly if these texts differ
  pub one : (room room' other other' : ℕ) (x y : Replayed) → replayed delay s t o room room' ≡ Ok x → replayed delay s t (recorded es) other other' ≡ Ok y → (b ≡ 1) ↔ (x ≡ y → ⊥)
  -- an order that demand 3 speaks of has 0
  pub allowed : Allowed delay es o → b ≡ 0

-- the bytes of orders end to end: there are as many as orders, each order has as many bytes as there are events, joined they are what was
-- given, and each has its byte
pub record BytesOf (delay : ℕ) (s t os : List ℕ) (es : List Event) (bytes : List ℕ) : Type 0 where
  pub sizes : (k : ℕ) → k < length bytes → length (order_at (length es) os k) ≡ length es
  pub joined : gather (order_at (length es) os) (length bytes) ≡ os
  pub each : (k : ℕ) → k < length bytes → ByteOf delay s t es (order_at (length es) os k) (get_or bytes k 0)
