-- Laws of lists gathered from parts, of counts and of sums over the numbers below a bound. Assumes nothing.
use Prim.Native.Nat.{ℕ, zero, suc, ◌+◌, ◌*◌, ◌<◌, ◌≤◌}
use native.Mathlib.Nat.{eq-or-lt_of_le, le_of_suc-le-suc, le_refl, suc-mul}
use native.Mathlib.Decide.{ℕ_discrete}
use native.Mathlib.Numerals.{add-one}
use native.Mathlib.Omega.{arith}
use mathlib.Core.Path.{◌≡◌, refl, ap, subst, ◌∙◌}
use mathlib.Core.Logic.{⊎_elim}
use mathlib.Core.Bool.{Bool, true, false}
use mathlib.Core.List.Memᴰ
use mathlib.Core.List.{List, [], ◌++◌, Memᴰ}
use lib.ListN.{length, length-append}
use Rattle.basics.specs.Searches.{only, gather, size, count_below, sum_below}

pub in_gather : {A : Type 0} (x : A) (f : ℕ → List A) (n m : ℕ) → m < n → Memᴰ x (f m) → Memᴰ x (gather f n)
in_gather x f zero m l h = absurd (omega arith)
in_gather x f (suc n) m l h =
    ⊎_elim
    (λ e. Memᴰ.append_right (gather f n) (subst (λ (k : ℕ). Memᴰ x (f k)) e h))
    (λ u. Memᴰ.append_left (f n) (in_gather x f n m u h))
    (eq-or-lt_of_le (le_of_suc-le-suc l))

pub gather_in : {A : Type 0} (x : A) (f : ℕ → List A) (n : ℕ) → Memᴰ x (gather f n) → (m : ℕ) × (m < n) × Memᴰ x (f m)
gather_in x f zero h = absurd (Memᴰ.not-nil h)
gather_in x f (suc n) h =
    ⊎_elim
    (λ u. let r = gather_in x f n u in (r.0, omega (arith, r.1), r.2))
    (λ u. (n, le_refl (suc n), u))
    (Memᴰ.append_cases (gather f n) h)

pub only_in : {A : Type 0} (x y : A) (t : Bool) → Memᴰ x (only t y) → (x ≡ y) × (t ≡ true)
only_in x y true h = (Memᴰ.eq_of_singleton h, refl)
only_in x y false h = absurd (Memᴰ.not-nil h)

pub in_only : {A : Type 0} (x : A) (t : Bool) → t ≡ true → Memᴰ x (only t x)
in_only x t e = rw e (Memᴰ.head refl)

-- ---- lists gathered from parts
pub gather_more : {A : Type 0} (f : ℕ → List A) (n : ℕ) → length (gather f (n + 1)) ≡ length (gather f n) + length (f n)
gather_more f n = rw add-one (length-append (gather f n) (f n))

-- n parts of at most m elements
pub gather_most : {A : Type 0} (f : ℕ → List A) (m : ℕ) → ((j : ℕ) → length (f j) ≤ m) → (n : ℕ) → length (gather f n) ≤ n * m
gather_most f m h zero = omega arith
gather_most f m h (suc n) = omega (arith, length-append (gather f n) (f n), gather_most f m h n, h n, suc-mul n m)

-- parts that are all empty
pub gather_none : {A : Type 0} (f : ℕ → List A) (n : ℕ) → ((j : ℕ) → j < n → f j ≡ []) → gather f n ≡ []
gather_none f zero h = refl
gather_none f (suc n) h = simp (gather_none f n (λ j l. h j (omega arith)), h n (omega arith))

-- what is done to each part is done to the whole
pub gather_through : {A B : Type 0} (h : List A → List B) → h [] ≡ [] → ((xs ys : List A) → h (xs ++ ys) ≡ h xs ++ h ys) → (f : ℕ → List A) (n : ℕ)
    → h (gather f n) ≡ gather (λ j. h (f j)) n
gather_through h e both f zero = e
gather_through h e both f (suc n) = both (gather f n) (f n) ∙ ap (λ l. l ++ h (f n)) (gather_through h e both f n)

pub size_only : {A : Type 0} (t : Bool) (x : A) → length (only t x) ≡ size t
size_only true x = refl
size_only false x = refl

pub only_most : {A : Type 0} (t : Bool) (x : A) → length (only t x) ≤ 1
only_most true x = omega arith
only_most false x = omega arith

-- ---- the sum of the counts
-- a list that counts three others, part by part
pub gather_sum : {A : Type 0} (f g h k : ℕ → List A) → ((j : ℕ) → length (f j) ≡ length (g j) + length (h j) + length (k j))
    → (n : ℕ) → length (gather f n) ≡ length (gather g n) + length (gather h n) + length (gather k n)
gather_sum f g h k e zero = refl
gather_sum f g h k e (suc n) =
    omega (
      arith,
      gather_sum f g h k e n,
      e n,
      length-append (gather f n) (f n),
      length-append (gather g n) (g n),
      length-append (gather h n) (h n),
      length-append (gather k n) (k n),
    )

pub count_same : (p q : ℕ → Bool) → ((k : ℕ) → p k ≡ q k) → (n : ℕ) → count_below p n ≡ count_below q n
count_same p q h zero = refl
count_same p q h (suc n) = omega (arith, count_same p q h n, ap size (h n))

pub count_none : (p : ℕ → Bool) → ((k : ℕ) → p k ≡ false) → (n : ℕ) → count_below p n ≡ 0
count_none p h zero = refl
count_none p h (suc n) = omega (arith, count_none p h n, ap size (h n))

pub sum_same : (f g : ℕ → ℕ) → ((w : ℕ) → f w ≡ g w) → (m : ℕ) → sum_below f m ≡ sum_below g m
sum_same f g h zero = refl
sum_same f g h (suc m) = omega (arith, sum_same f g h m, h m)

-- two functions that differ at v only
pub sum_before : (f g : ℕ → ℕ) (v : ℕ) → ((w : ℕ) → (w ≡ v → ⊥) → f w ≡ g w) → (m : ℕ) → m ≤ v → sum_below f m ≡ sum_below g m
sum_before f g v h zero l = refl
sum_before f g v h (suc m) l = omega (arith, sum_before f g v h m (omega arith), h m (omega arith))

pub sum_at : (f g : ℕ → ℕ) (v x : ℕ) → ((w : ℕ) → (w ≡ v → ⊥) → f w ≡ g w) → f v ≡ g v + x → (m : ℕ) → v < m → sum_below f m ≡ sum_below g m + x
sum_at f g v x h e zero l = absurd (omega arith)
sum_at f g v x h e (suc m) l =
    elim (ℕ_discrete m v) [
      | yes q ↦ omega (arith, sum_before f g v h m (omega arith), ap f q, ap g q)
      | no ne ↦ omega (arith, sum_at f g v x h e m (omega arith), h m ne)
    ]

pub sum_more : (f g : ℕ → ℕ) (v x : ℕ) → ((w : ℕ) → (w ≡ v → ⊥) → f w ≡ g w) → f v ≤ g v + x → (m : ℕ) → sum_below f m ≤ sum_below g m + x
sum_more f g v x h e zero = omega arith
sum_more f g v x h e (suc m) =
    elim (ℕ_discrete m v) [
      | yes q ↦ omega (arith, sum_before f g v h m (omega arith), ap f q, ap g q)
      | no ne ↦ omega (arith, sum_more f g v x h e m, h m ne)
    ]

pub sum_none : (m : ℕ) → sum_below (λ w. 0) m ≡ 0
sum_none zero = refl
sum_none (suc m) = omega (arith, sum_none m)
