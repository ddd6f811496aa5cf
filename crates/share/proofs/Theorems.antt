-- The share is a division that leaves nothing out (`share_means`), the only one (`share_iff`); it is whole exactly if unordered
-- pairs exist and none is listed (`share_whole`), and of small counts it is small (`share_small`). Assumes nothing.
use Prim.Native.Nat.{ℕ, ◌+◌, ◌*◌, ◌/◌, ◌%◌, ◌≤◌, ◌<◌}
use native.Mathlib.Nat.{div-add-mod', div-le_self, mod-le, mod-lt}
use native.Mathlib.Omega.{arith}
use mathlib.Core.Path.{◌≡◌, refl, sym, ap, ap₂, ◌∙◌}
use mathlib.Core.Logic.{◌↔◌}
use lib.Arith.{digits_div, digits_mod}
use lib.Dec.{eqb}
use borrow.Author.Tests.{eqb-true, eqb-false, eq-eqb, ne_eqb}
use Rattle.basics.proofs.Booleans.{split}
use Rattle.call_answers.specs.Inner.{Small}
use Rattle.share.specs.Types.{Counts, Share}
use Rattle.share.specs.Share.{unordered, no_share, share_of}
use Rattle.share.specs.Meaning.{IsShare}

module _ (c : Counts) where
  -- by the test of the divisor
  pub share_none : unordered c ≡ 0 → share_of c ≡ no_share
  unfolding share_of
  share_none e = rw (eq-eqb (unordered c) 0 e) refl

  pub share_some : (unordered c ≡ 0 → ⊥)
      → share_of c ≡ record { quotient = 1000 * c.commuting / unordered c; remainder = 1000 * c.commuting % unordered c; divisor = unordered c }
  unfolding share_of
  share_some u = rw (ne_eqb (unordered c) 0 u) refl

  -- either no pair is unordered, or some are
  by_divisor : (P : Type 0) → (unordered c ≡ 0 → P) → ((unordered c ≡ 0 → ⊥) → P) → P
  by_divisor P none some = split (eqb (unordered c) 0) (λ h. none (eqb-true (unordered c) 0 h)) (λ h. some (eqb-false (unordered c) 0 h))

  -- what document 01 says of the share
  pub share_means : IsShare c (share_of c)
  share_means = by_divisor (IsShare c (share_of c)) none some
    where
      none : unordered c ≡ 0 → IsShare c (share_of c)
      none e = rw (share_none e) (record { by = sym e; product = omega (arith, e); below = λ l. l; none = λ _. (refl, refl) })

      some : (unordered c ≡ 0 → ⊥) → IsShare c (share_of c)
      some u =
          rw (share_some u)
          (record {
            by = refl;
            product = div-add-mod' (1000 * c.commuting) (unordered c);
            below = λ l. mod-lt (1000 * c.commuting) l;
            none = λ e. absurd (u e);
          })

  -- there is no other
  pub share_iff : (x : Share) → (x ≡ share_of c) ↔ IsShare c x
  share_iff x = (λ e. rw e share_means, λ s. by_divisor (x ≡ share_of c) (none s) (some s))
    where
      none : IsShare c x → unordered c ≡ 0 → x ≡ share_of c
      none s e =
          let d : x.divisor ≡ 0 = s.by ∙ e in
          let z = s.none d in
          rw (share_none e) (λ m. record { quotient = z.0 m; remainder = z.1 m; divisor = d m })

      some : IsShare c x → (unordered c ≡ 0 → ⊥) → x ≡ share_of c
      some s u =
          let l : x.remainder < x.divisor = s.below (omega (arith, s.by, u)) in
          let q : x.quotient ≡ 1000 * c.commuting / unordered c =
          sym (digits_div x.quotient l) ∙ ap₂ (λ (a b : ℕ). a / b) s.product s.by in
          let r : x.remainder ≡ 1000 * c.commuting % unordered c =
          sym (digits_mod x.quotient l) ∙ ap₂ (λ (a b : ℕ). a % b) s.product s.by in
          rw (share_some u) (λ m. record { quotient = q m; remainder = r m; divisor = s.by m })

  -- 1,000 exactly if pairs are unordered and all of them commute
  pub share_whole : ((share_of c).quotient ≡ 1000) ↔ ((0 < c.commuting) × (c.listed ≡ 0))
  share_whole = (all, whole)
    where
      all : (share_of c).quotient ≡ 1000 → (0 < c.commuting) × (c.listed ≡ 0)
      all e =
          let s = share_means in
          let p : 1000 * (share_of c).divisor + (share_of c).remainder ≡ 1000 * c.commuting = rw e at s.product in
          let u : 0 < (share_of c).divisor = by_divisor _ (λ z. absurd (omega (arith, e, (s.none (s.by ∙ z)).0))) (λ u. omega (arith, s.by, u)) in
          (omega (arith, u, p, s.by), omega (arith, p, s.by))

      whole : (0 < c.commuting) × (c.listed ≡ 0) → (share_of c).quotient ≡ 1000
      whole (l, z) =
          let x : Share = record { quotient = 1000; remainder = 0; divisor = c.commuting } in
          let s : IsShare c x = record { by = omega (arith, z); product = omega arith; below = λ b. b; none = λ e. absurd (omega (arith, l, e)) } in
          ap (λ (y : Share). y.quotient) (sym ((share_iff x).1 s))

  -- of counts that are small all three are
  pub share_small : Small c → ((share_of c).quotient ≤ 65535000) × ((share_of c).remainder ≤ 65535000) × ((share_of c).divisor ≤ 131070)
  share_small small =
      by_divisor _ (λ e. rw (share_none e) (omega arith, omega arith, omega arith))
      (λ u. rw (share_some u)
      (omega (arith, div-le_self (1000 * c.commuting) (unordered c), small.commuting_small), omega (arith, mod-le (1000 * c.commuting) (unordered c), small.commuting_small), omega (arith, small.commuting_small, small.listed_small)))
