-- Document 01, "Refusal table", 21 and 22: which orders of a trace's events are accepted. An order is the list of its bytes.
use Rattle.std.specs.Prelude.{◌≡◌, Bool, true, false, not, ◌&&◌, ◌||◌, cond, List, [], ◌∷◌, ℕ, ◌+◌, ◌<◌, eqb, length, get_or, Option, None, Some}
use Rattle.order_meaning.specs.Orders.{stands}
use Rattle.basics.specs.Searches.{has, all_below}
use Rattle.happens_before.specs.Causality.{direct, Chain, before}
use Rattle.refusals.specs.Checks.{Checked, ◌▹◌, refuse_if, refuse_at}
use Rattle.order_check.specs.Types.{Event, Refusal}

-- the length is n, and each event 0 .. n-1 stands in the order
unfoldable pub complete : ℕ → List ℕ → Bool
complete n o = eqb (length o) n && all_below (λ i. has i o) n

-- some event of the list comes before event j, as hb says
unfoldable pub any_before : (ℕ → ℕ → Bool) → ℕ → List ℕ → Bool
any_before hb j [] = false
any_before hb j (i ∷ o) = hb i j || any_before hb j o

-- the first position, counted from k, that holds an event put before one that comes before it
unfoldable pub early_from : (ℕ → ℕ → Bool) → ℕ → List ℕ → Option ℕ
early_from hb k [] = None
early_from hb k (j ∷ o) = cond (any_before hb j o) (Some k) (early_from hb (k + 1) o)

-- the lowest position that holds an event put before one that happens before it
abbrev pub first_early : ℕ → List Event → List ℕ → Option ℕ
first_early delay es o = early_from (before delay es) 0 o

-- 21 if the length of an order of n events is wrong or an event missing; then 22 at the first position that is early, as hb says
abbrev pub check_by : (ℕ → ℕ → Bool) → ℕ → List ℕ → Checked (Unit {0})
check_by hb n o =
    refuse_if (not (complete n o)) Refusal.OrderIncomplete ▹ λ _.
    refuse_at (early_from hb 0 o) Refusal.EventTooEarly

-- the same of a trace's events, by what happens before
unfoldable pub check_order : ℕ → List Event → List ℕ → Checked (Unit {0})
check_order delay es o = check_by (before delay es) (length es) o

-- a position that holds an event put before one that comes before it: a later position has that one
pub record EarlyAt (hb : ℕ → ℕ → Bool) (o : List ℕ) (p : ℕ) : Type 0 where
  pub later : ℕ
  pub after : p < later
  pub within : later < length o
  pub precedes : hb (get_or o later 0) (get_or o p 0) ≡ true

-- the lowest such position
pub record LowestEarly (hb : ℕ → ℕ → Bool) (o : List ℕ) (p : ℕ) : Type 0 where
  pub early : EarlyAt hb o p
  pub lowest : (m : ℕ) → m < p → EarlyAt hb o m → ⊥

-- each event stands after all that happen before it
abbrev pub KeepsOrder : ℕ → List Event → List ℕ → Type 0
KeepsOrder delay es o = (i j : ℕ) → Chain (direct delay es) i j → stands i j o ≡ true
