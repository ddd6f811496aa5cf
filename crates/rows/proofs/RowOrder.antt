-- The order of rows: a strict total order of their switches and keys. Assumes nothing.
use mathlib.Core.Path.{◌≡◌, refl, sym, ◌∙◌, ap}
use mathlib.Core.Logic.{◌↔◌}
use mathlib.Core.Bool.{true, false≢true}
use Prim.Native.Nat.{ℕ}
use Rattle.flow.specs.Entries.{key_order, is_equal}
use Rattle.std.specs.Ordering.{nat_cmp, ordering_then}
use Rattle.flow.specs.Orders.{IsOrder, opposite}
use Rattle.flow.proofs.Orders.{rising, in_turn}
use Rattle.flow.proofs.Entries.{key_order_lem}
use Rattle.rows.specs.Types.{Key, Ordering, Row}
use Rattle.rows.specs.Rows.{row_order, same_slot}

-- a switch and a key
abbrev pub Slot : Type 0
Slot = record { switch : ℕ; key : Key }

abbrev pub slot_of : Row → Slot
slot_of r = record { switch = r.switch; key = r.entry.key }

abbrev pub slot_order : Slot → Slot → Ordering
slot_order a b = ordering_then (nat_cmp a.switch b.switch) (key_order a.key b.key)

-- equal only where switch and key are; opposite when swapped; transitive
pub slot_order_lem : IsOrder Slot slot_order
slot_order_lem = in_turn rising key_order_lem (λ (s : Slot). s.switch) (λ s. s.key) (λ a b p q. λ i. record { switch = p i; key = q i })

pub by_slot : (r s : Row) → row_order r s ≡ slot_order (slot_of r) (slot_of s)
unfolding row_order
by_slot r s = refl

module _ (r s : Row) where
  pub row_same : row_order r s ≡ Ordering.Equal → slot_of r ≡ slot_of s
  row_same e = slot_order_lem.same (slot_of r) (slot_of s) (sym (by_slot r s) ∙ e)

  pub row_turn : row_order s r ≡ opposite (row_order r s)
  row_turn = by_slot s r ∙ slot_order_lem.turn (slot_of r) (slot_of s) ∙ sym (ap opposite (by_slot r s))

  pub row_chain : (t : Row) → row_order r s ≡ Ordering.Less → row_order s t ≡ Ordering.Less → row_order r t ≡ Ordering.Less
  row_chain t e f = by_slot r t ∙ slot_order_lem.chain (slot_of r) (slot_of s) (slot_of t) (sym (by_slot r s) ∙ e) (sym (by_slot s t) ∙ f)

  pub row_greater : row_order r s ≡ Ordering.Greater → row_order s r ≡ Ordering.Less
  row_greater e = row_turn ∙ ap opposite e

pub row_self : (r : Row) → row_order r r ≡ Ordering.Equal
row_self r = by_slot r r ∙ slot_order_lem.self (slot_of r)

-- rows of one slot compare alike
pub like_slot : (r s t : Row) → slot_of r ≡ slot_of s → row_order r t ≡ row_order s t
like_slot r s t e = by_slot r t ∙ ap (λ a. slot_order a (slot_of t)) e ∙ sym (by_slot s t)

pub like_slot_right : (t r s : Row) → slot_of r ≡ slot_of s → row_order t r ≡ row_order t s
like_slot_right t r s e = by_slot t r ∙ ap (slot_order (slot_of t)) e ∙ sym (by_slot t s)

is_equal_lem : (o : Ordering) → is_equal o ≡ true → o ≡ Ordering.Equal
is_equal_lem Ordering.Less e = absurd (false≢true e)
is_equal_lem Ordering.Equal e = refl
is_equal_lem Ordering.Greater e = absurd (false≢true e)

pub same_slot_iff : (r s : Row) → (same_slot r s ≡ true) ↔ (slot_of r ≡ slot_of s)
unfolding same_slot
same_slot_iff r s = (λ e. row_same r s (is_equal_lem (row_order r s) e), λ e. ap is_equal (like_slot r s s e ∙ row_self s))
