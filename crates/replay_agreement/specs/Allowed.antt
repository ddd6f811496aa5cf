-- Document 01, "What an order of events does": the orders that demand 3 speaks of.
use Rattle.std.specs.Prelude.{◌≡◌, true, ℕ, length}
use mathlib.Core.List.{List, Memᴰ}
use Rattle.order_meaning.specs.Orders.{stands, IsOrderOf}
use Rattle.list_pairs.specs.List.{Pair, list_of}
use Rattle.order_check.specs.Schedule.{KeepsOrder}
use Rattle.replay_agreement.specs.Types.{Event}

-- it has every pair of the list in recorded order: the lower event stands first
abbrev pub HasListed : ℕ → List Event → List ℕ → Type 0
HasListed delay es o = (p : Pair) → Memᴰ p (list_of delay es) → stands p.lower p.higher o ≡ true

-- an order of the events, each once, that keeps happens-before and has every listed pair in recorded order
pub record Allowed (delay : ℕ) (es : List Event) (o : List ℕ) : Type 0 where
  pub order : IsOrderOf (length es) o
  pub keeps : KeepsOrder delay es o
  pub listed : HasListed delay es o
