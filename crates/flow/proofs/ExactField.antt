-- A number or `*` is a field, the numbers being those below w, of which there are at least two. Assumes nothing.
use mathlib.Core.Path.{◌≡◌, refl, sym, ◌∙◌}
use mathlib.Core.Bool.{true, false, ◌&&◌, false≢true, true≢false}
use Prim.Native.Nat.{ℕ, zero, suc, ◌≤◌, ◌<◌}
use native.Mathlib.Omega.{arith}
use lib.Dec.{eqb}
use borrow.Author.Tests.{eqb-true, eqb-false, eq-eqb, ne_eqb}
use Rattle.flow.specs.Types.{Exact}
use Rattle.flow.specs.Matches.{exact_fits, exact_overlaps, exact_within, ExactInRange}
use Rattle.flow.specs.Inner.{exact_meet, exact_point}
use Rattle.basics.proofs.Booleans.{and_absorb}
use Rattle.flow.proofs.Field.{IsField}

point_fits : (a : Exact) → exact_fits a (exact_point a) ≡ true
point_fits Exact.Any = refl
point_fits (Exact.Is n) = eq-eqb n n refl

within_fits : (a b : Exact) → exact_within a b ≡ true → (x : ℕ) → exact_fits a x ≡ true → exact_fits b x ≡ true
within_fits Exact.Any Exact.Any h x e = refl
within_fits (Exact.Is m) Exact.Any h x e = refl
within_fits Exact.Any (Exact.Is n) h x e = absurd (false≢true h)
within_fits (Exact.Is m) (Exact.Is n) h x e = rw (← eqb-true m n h) e

fits_overlap : (a b : Exact) (x : ℕ) → exact_fits a x ≡ true → exact_fits b x ≡ true → exact_overlaps a b ≡ true
fits_overlap Exact.Any b x e k = refl
fits_overlap (Exact.Is m) Exact.Any x e k = refl
fits_overlap (Exact.Is m) (Exact.Is n) x e k = eq-eqb m n (eqb-true m x e ∙ sym (eqb-true n x k))

meet_fits : (a b : Exact) → exact_overlaps a b ≡ true → (x : ℕ) → exact_fits (exact_meet a b) x ≡ exact_fits a x && exact_fits b x
meet_fits Exact.Any b h x = refl
meet_fits (Exact.Is m) Exact.Any h x = and_absorb (eqb m x) true (λ e. refl)
meet_fits (Exact.Is m) (Exact.Is n) h x = and_absorb (eqb m x) (eqb n x) (λ e. rw (← eqb-true m n h) e)

module _ (w : ℕ) (two : 2 ≤ w) where
  other : (n : ℕ) → (x : ℕ) × (x < w) × (eqb n x ≡ false)
  other zero = (1, omega arith, ne_eqb 0 1 (omega arith))
  other (suc n) = (0, omega arith, ne_eqb (suc n) 0 (omega arith))

  point_ok : (a : Exact) → ExactInRange w a → exact_point a < w
  point_ok Exact.Any k = omega arith
  point_ok (Exact.Is n) k = k

  meet_ok : (a b : Exact) → ExactInRange w a → ExactInRange w b → ExactInRange w (exact_meet a b)
  meet_ok Exact.Any b k l = l
  meet_ok (Exact.Is m) b k l = k

  tells : (a b : Exact) → exact_within a b ≡ false
      → (x : ℕ) × (exact_fits a x ≡ true) × (exact_fits b x ≡ false) × (ExactInRange w a → ExactInRange w b → x < w)
  tells Exact.Any Exact.Any e = absurd (true≢false e)
  tells (Exact.Is m) Exact.Any e = absurd (true≢false e)
  tells Exact.Any (Exact.Is n) e = let o = other n in (o.0, refl, o.2, λ i j. o.1)
  tells (Exact.Is m) (Exact.Is n) e = (m, eq-eqb m m refl, ne_eqb n m (λ q. eqb-false m n e (sym q)), λ i j. i)

  pub exact_field : IsField (ExactInRange w) (λ x. x < w) exact_fits exact_within exact_overlaps exact_meet exact_point
  exact_field = record {
    point_fits = point_fits;
    point_ok = point_ok;
    within_fits = within_fits;
    tells = tells;
    fits_overlap = fits_overlap;
    meet_fits = meet_fits;
    meet_ok = meet_ok;
  }
