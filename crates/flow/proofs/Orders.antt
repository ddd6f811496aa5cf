-- The orders that table order is made of: numbers rising and falling, lists of numbers, one order after another. Assumes nothing.
use mathlib.Core.Path.{◌≡◌, refl, sym, ap}
use mathlib.Core.List.{List, [], ◌∷◌}
use Prim.Native.Nat.{ℕ, ◌<◌}
use native.Mathlib.Omega.{arith}
use lib.Dec.{ltb}
use borrow.Author.Tests.{lt-ltb, le-ltb, eq-eqb, ne_eqb, ltb-true, ltb-false}
use Rattle.std.specs.Cmp.{IsTotalOrder}
use Rattle.std.specs.Cmp.Lexicographic.{slice_cmp}
use Rattle.std.specs.Ordering.{nat_cmp, ordering_then}
use Rattle.std.proofs.lemmas.Cmp.{tied_itself, nat_cmp_total, lists_total, on_total, then_total, back_total}
use Rattle.flow.specs.Types.{Ordering}
use Rattle.flow.specs.Orders.{IsOrder}
use Rattle.basics.proofs.Booleans.{split}

pub equal≢less : Ordering.Equal ≡ Ordering.Less → ⊥
equal≢less p = cc

then_equal : (o p : Ordering) → ordering_then o p ≡ Ordering.Equal → (o ≡ Ordering.Equal) × (p ≡ Ordering.Equal)
then_equal Ordering.Less p e = absurd (cc)
then_equal Ordering.Equal p e = (refl, e)
then_equal Ordering.Greater p e = absurd (cc)

-- ---- a total order that tells its values apart
of_total : {A : Type 0} {c : A → A → Ordering} → IsTotalOrder c → ((a b : A) → c a b ≡ Ordering.Equal → a ≡ b) → IsOrder A c
of_total t apart = record { same = apart; self = tied_itself t; turn = λ a b. t.antisymm b a; chain = t.trans }

total_of : {A : Type 0} {c : A → A → Ordering} → IsOrder A c → IsTotalOrder c
total_of {c = c} o = record { antisymm = λ x y. o.turn y x; trans = o.chain; congr = λ x y z e. ap (λ w. c w z) (o.same x y e) }

-- ---- numbers
pub number_less : {a b : ℕ} → a < b → nat_cmp a b ≡ Ordering.Less
number_less {a} {b} h = rw (lt-ltb a b h)

pub number_equal : {a b : ℕ} → a ≡ b → nat_cmp a b ≡ Ordering.Equal
number_equal {a} {b} h = rw (le-ltb a b (omega arith), eq-eqb a b h)

pub number_greater : {a b : ℕ} → b < a → nat_cmp a b ≡ Ordering.Greater
number_greater {a} {b} h = rw (le-ltb a b (omega arith), ne_eqb a b (λ e. omega arith))

-- two numbers: the one is below the other, or they are equal
pub three : {G : Type 0} (a b : ℕ) → (a < b → G) → (a ≡ b → G) → (b < a → G) → G
three a b f g h = split (ltb a b) (λ e. f (ltb-true a b e)) (λ e. split (ltb b a) (λ k. h (ltb-true b a k)) (λ k. g (omega (arith, ltb-false a b e, ltb-false b a k))))

pub less_number : (a b : ℕ) → nat_cmp a b ≡ Ordering.Less → a < b
less_number a b e = three a b (λ h. h) (λ h. let k = number_equal h in absurd (cc)) (λ h. let k = number_greater h in absurd (cc))

pub equal_number : (a b : ℕ) → nat_cmp a b ≡ Ordering.Equal → a ≡ b
equal_number a b e = three a b (λ h. let k = number_less h in absurd (cc)) (λ h. h) (λ h. let k = number_greater h in absurd (cc))

pub rising : IsOrder ℕ nat_cmp
rising = of_total nat_cmp_total equal_number

pub falling : IsOrder ℕ (λ a b. nat_cmp b a)
falling = of_total (back_total nat_cmp_total) (λ a b e. sym (equal_number b a e))

-- ---- lists of numbers
lists_same : (s t : List ℕ) → slice_cmp nat_cmp s t ≡ Ordering.Equal → s ≡ t
lists_same [] [] e = refl
lists_same [] (y ∷ ys) e = absurd (cc)
lists_same (x ∷ xs) [] e = absurd (cc)
lists_same (x ∷ xs) (y ∷ ys) e = let h = then_equal (nat_cmp x y) (slice_cmp nat_cmp xs ys) e in rw (equal_number x y h.0, lists_same xs ys h.1) refl

pub lexicographic : IsOrder (List ℕ) (slice_cmp nat_cmp)
lexicographic = of_total (lists_total nat_cmp_total) lists_same

-- ---- one order after another, of two parts f and g that together tell the values apart
module _ {A : Type 0} {B : Type 0} {C : Type 0} {c : B → B → Ordering} {d : C → C → Ordering} (c-order : IsOrder B c) (d-order : IsOrder C d) (f : A → B) (g : A → C)
    (apart : (x y : A) → f x ≡ f y → g x ≡ g y → x ≡ y) where
  pub in_turn : IsOrder A (λ x y. ordering_then (c (f x) (f y)) (d (g x) (g y)))
  in_turn = of_total (then_total (on_total f (total_of c-order)) (on_total g (total_of d-order)))
      (λ x y e. let h = then_equal (c (f x) (f y)) (d (g x) (g y)) e in apart x y (c-order.same (f x) (f y) h.0) (d-order.same (g x) (g y) h.1))
