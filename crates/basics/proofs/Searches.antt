-- Searches over the numbers below n, and over lists. Assumes nothing.
use Prim.Native.Nat.{ℕ, zero, suc, ◌+◌, ◌<◌}
use native.Mathlib.Nat.{eq-or-lt_of_le, le_of_suc-le-suc}
use native.Mathlib.Numerals.{add-one}
use mathlib.Core.Path.{◌≡◌, refl, sym, ap, ◌∙◌}
use mathlib.Core.Bool.{Bool, true, false, ◌&&◌, false≢true, true≢false, or-true}
use mathlib.Core.Logic.{◌↔◌, ⊎_elim}
use Rattle.std.specs.Prelude.{Option, None, Some}
use mathlib.Core.List.Memᴰ
use mathlib.Core.List.{List, [], ◌∷◌, Memᴰ}
use native.Mathlib.Omega.{arith}
use lib.Dec.{eqb}
use borrow.Author.Tests.{eqb-true, eqb-false, eq-eqb}
use Rattle.basics.proofs.Booleans.{split, and_left, and_right, and_intro, or_cases}
use Rattle.basics.specs.Searches.{has, any_in, any_below, all_below, shares, or_else, lowest, Lowest}

-- ---- some number below n
-- two tests that agree below n
pub any_same : (p q : ℕ → Bool) (n : ℕ) → ((k : ℕ) → k < n → p k ≡ q k) → any_below p n ≡ any_below q n
any_same p q zero h = refl
any_same p q (suc n) h = simp (any_same p q n (λ k l. h k (omega arith)), h n (omega arith))

pub any_none : (p : ℕ → Bool) (n : ℕ) → ((k : ℕ) → k < n → p k ≡ false) → false ≡ any_below p n
any_none p zero h = refl
any_none p (suc n) h = rw (← any_none p n (λ k l. h k (omega arith)), h n (omega arith))

pub any_found : (p : ℕ → Bool) (n : ℕ) → any_below p n ≡ true → (k : ℕ) × (k < n) × (p k ≡ true)
any_found p zero h = absurd (false≢true h)
any_found p (suc n) h =
    or_cases (any_below p n) (p n) h
    (λ e. let r = any_found p n e in (r.0, omega (arith, r.1), r.2))
    (λ e. (n, omega arith, e))

pub any_at : (p : ℕ → Bool) (n k : ℕ) → k < n → p k ≡ true → any_below p n ≡ true
any_at p zero k l h = absurd (omega arith)
any_at p (suc n) k l h = split (eqb k n)
    (λ e. rw (ap p (sym (eqb-true k n e)) ∙ h) (or-true (any_below p n)))
    (λ e. let d = eqb-false k n e in rw (any_at p n k (omega arith) h))

-- ---- a number stands in a list
pub has_iff : (t : ℕ) (ts : List ℕ) → (has t ts ≡ true) ↔ Memᴰ t ts
has_iff t ts = (found ts, at ts)
  where
    found : (ts : List ℕ) → has t ts ≡ true → Memᴰ t ts
    found [] e = absurd (false≢true e)
    found (u ∷ ts) e = or_cases (eqb t u) (has t ts) e (λ f. Memᴰ.head (eqb-true t u f)) (λ f. Memᴰ.tail (found ts f))

    at : (ts : List ℕ) → Memᴰ t ts → has t ts ≡ true
    at [] m = absurd (Memᴰ.not-nil m)
    at (u ∷ ts) m = ⊎_elim (λ e. rw (eq-eqb t u e) refl) (λ n. rw (at ts n) (or-true (eqb t u))) (Memᴰ.cases_cons m)

-- ---- some token stands in both lists
token_found : (p : ℕ → Bool) (ts : List ℕ) → any_in p ts ≡ true → (t : ℕ) × (has t ts ≡ true) × (p t ≡ true)
token_found p [] h = absurd (false≢true h)
token_found p (x ∷ ts) h = or_cases (p x) (any_in p ts) h
    (λ e. (x, rw (eq-eqb x x refl), e))
    (λ e. let r = token_found p ts e in (r.0, rw r.1 (or-true (eqb r.0 x)), r.2))

token_at : (p : ℕ → Bool) (ts : List ℕ) (t : ℕ) → has t ts ≡ true → p t ≡ true → any_in p ts ≡ true
token_at p [] t h e = absurd (false≢true h)
token_at p (x ∷ ts) t h e = or_cases (eqb t x) (has t ts) h
    (λ u. rw (ap p (sym (eqb-true t x u)) ∙ e))
    (λ u. rw (token_at p ts t u e) (or-true (p x)))

pub shares_found : (ss ts : List ℕ) → shares ss ts ≡ true → (t : ℕ) × (has t ss ≡ true) × (has t ts ≡ true)
unfolding shares
shares_found ss ts h = token_found (λ t. has t ts) ss h

pub shares_at : (ss ts : List ℕ) (t : ℕ) → has t ss ≡ true → has t ts ≡ true → shares ss ts ≡ true
unfolding shares
shares_at ss ts t h k = token_at (λ u. has u ts) ss t h k

-- ---- every number below n
-- one number more
pub all_more : (p : ℕ → Bool) (n : ℕ) {a b : Bool} → a ≡ all_below p n → b ≡ p n → (a && b) ≡ all_below p (n + 1)
all_more p n e f = rw add-one (cc)

-- two tests that agree below n
pub all_same : (p q : ℕ → Bool) (n : ℕ) → ((k : ℕ) → k < n → p k ≡ q k) → all_below p n ≡ all_below q n
all_same p q zero h = refl
all_same p q (suc n) h = simp (all_same p q n (λ k l. h k (omega arith)), h n (omega arith))

pub all_at : (p : ℕ → Bool) (n i : ℕ) → i < n → all_below p n ≡ true → p i ≡ true
all_at p zero i l h = absurd (omega arith)
all_at p (suc n) i l h =
    ⊎_elim
    (λ e. rw e (and_right (all_below p n) (p n) h))
    (λ m. all_at p n i m (and_left (all_below p n) (p n) h))
    (eq-or-lt_of_le (le_of_suc-le-suc l))

pub all_of : (p : ℕ → Bool) (n : ℕ) → ((i : ℕ) → i < n → p i ≡ true) → all_below p n ≡ true
all_of p zero h = refl
all_of p (suc n) h = and_intro (all_of p n (λ i l. h i (omega arith))) (h n (omega arith))

-- ---- the lowest number below n
-- what a search with a test finds, said of what the test stands for
module _ (P : ℕ → Type 0) (p : ℕ → Bool) (iff : (j : ℕ) → (p j ≡ true) ↔ P j) where
  abbrev Says : ℕ → Option ℕ → Type 0
  Says n None = (j : ℕ) → j < n → P j → ⊥
  Says n (Some j) = Lowest P n j

  says : (n : ℕ) → Says n (lowest p n)
  unfolding lowest
  says zero = λ j l w. omega arith
  says (suc n) = go (lowest p n) (says n)
    where
      go : (x : Option ℕ) → Says n x → Says (suc n) (or_else x (p n) n)
      go (Some j) w = let h = w.inside in record { inside = omega arith; here = w.here; none_lower = w.none_lower }
      go None w = split (p n)
          (λ e. rw e (record { inside = omega arith; here = (iff n).0 e; none_lower = w }))
          (λ e. rw e (λ j l v. split (eqb j n)
          (λ u. true≢false (sym ((iff j).1 v) ∙ ap p (eqb-true j n u) ∙ e))
          (λ u. let d = eqb-false j n u in w j (omega arith) v)))

  module _ (n : ℕ) where
    pub lowest_found : (j : ℕ) → lowest p n ≡ Some j → Lowest P n j
    lowest_found j h = rw h at (says n)

    pub lowest_none : lowest p n ≡ None → (j : ℕ) → j < n → P j → ⊥
    lowest_none h = rw h at (says n)

    pub lowest_absent : ((j : ℕ) → j < n → P j → ⊥) → lowest p n ≡ None
    lowest_absent h = go (lowest p n) refl (says n)
      where
        go : (x : Option ℕ) → lowest p n ≡ x → Says n x → lowest p n ≡ None
        go None e w = e
        go (Some j) e w = absurd (h j w.inside w.here)

-- ---- the lowest number below n that passes a test
pub lowest_nowhere : (p : ℕ → Bool) (n : ℕ) → ((j : ℕ) → j < n → p j ≡ false) → lowest p n ≡ None
unfolding lowest
lowest_nowhere p zero h = refl
lowest_nowhere p (suc n) h = rw (lowest_nowhere p n (λ j l. h j (omega arith)), h n (omega arith))

pub lowest_at : (p : ℕ → Bool) (n k : ℕ) → k < n → p k ≡ true → ((j : ℕ) → j < k → p j ≡ false) → lowest p n ≡ Some k
unfolding lowest
lowest_at p zero k l t f = absurd (omega arith)
lowest_at p (suc n) k l t f =
    ⊎_elim
    (λ e. rw (← e, lowest_nowhere p k f, t))
    (λ m. rw (lowest_at p n k m t f))
    (eq-or-lt_of_le (le_of_suc-le-suc l))

-- the lowest is found exactly where it is
pub lowest_iff : (P : ℕ → Type 0) (p : ℕ → Bool) → ((j : ℕ) → (p j ≡ true) ↔ P j) → (n j : ℕ) → (lowest p n ≡ Some j) ↔ Lowest P n j
lowest_iff P p iff n j = (
  lowest_found P p iff n j,
  λ l. lowest_at p n j l.inside ((iff j).1 l.here) (λ k h. split (p k) (λ e. absurd (l.none_lower k h ((iff k).0 e))) (λ e. e)),
)
