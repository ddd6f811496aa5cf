-- Document 01, "Refusal table", 21 and 22: when each refusal of an order applies.
use Rattle.std.specs.Prelude.{false, List, [], ◌∷◌, ◌⊎◌, ◌≡◌, ℕ, ◌<◌, length, get_or}
use Rattle.basics.specs.Searches.{has}
use Rattle.happens_before.specs.Causality.{direct, Chain}
use Rattle.refusals_order.specs.Types.{Refusal, Event}
use Rattle.refusals_order.specs.Causes.{Cause, When, AtLowest}

-- 21: the order's length is wrong, or an event is missing
abbrev pub Incomplete : List Event → List ℕ → Type 0
Incomplete es o = (length o ≡ length es → ⊥) ⊎ ((i : ℕ) × (i < length es) × (has i o ≡ false))

-- 22: position p holds an event that is put before one that happens before it, at a later position
pub record PutEarly (delay : ℕ) (es : List Event) (o : List ℕ) (p : ℕ) : Type 0 where
  pub later : ℕ
  pub after : p < later
  pub within : later < length o
  pub chain : Chain (direct delay es) (get_or o later 0) (get_or o p 0)

abbrev pub incomplete_cause : List ℕ → List Event → Cause
incomplete_cause o es = When (Incomplete es o) Refusal.OrderIncomplete

-- the lowest such position
abbrev pub early_put_cause : ℕ → List ℕ → List Event → Cause
early_put_cause delay o es = AtLowest (PutEarly delay es o) (length o) Refusal.EventTooEarly

unfoldable pub order_causes : ℕ → List ℕ → List Event → List Cause
order_causes delay o es = incomplete_cause o es ∷ early_put_cause delay o es ∷ []
