-- An order that has every dependent pair in recorded order leaves what the recorded order leaves, with the same answers: sorting
-- the order by insertion moves each event past independent ones only. Assumes nothing.
use mathlib.Core.Path.{◌≡◌, refl, sym, ◌∙◌, ap}
use mathlib.Core.Bool.{Bool, true, false, ◌&&◌, ◌||◌, cond, false≢true, or-true}
use Rattle.std.specs.Prelude.{Some}
use mathlib.Core.List.{List, [], ◌∷◌, ◌++◌}
use Prim.Native.Nat.{ℕ, zero, suc, ◌+◌, ◌≤◌, ◌<◌}
use native.Mathlib.Omega.{arith}
use lib.Dec.{eqb, ltb}
use lib.ListN.{length}
use borrow.Author.Tests.{eqb-true, eq-eqb, ne_eqb, ltb-true, ltb-false, lt-ltb, le-ltb}
use Rattle.order_meaning.specs.Orders.{run, answer_in, from, stands, IsOrderOf, Independent, Agrees}
use Rattle.basics.specs.Searches.{has}
use Rattle.basics.proofs.Booleans.{split, or_cases, cond_swap}

-- every number of a list
abbrev pub All : (ℕ → Type 0) → List ℕ → Type 0
All P [] = Unit {0}
All P (y ∷ l) = P y × All P l

-- a number put in before the first that is not smaller; sorting by that
abbrev arrange : ℕ → List ℕ → List ℕ
arrange x [] = x ∷ []
arrange x (y ∷ l) = cond (ltb y x) (y ∷ arrange x l) (x ∷ y ∷ l)

abbrev sort : List ℕ → List ℕ
sort [] = []
sort (x ∷ o) = arrange x (sort o)

all_arrange : (P : ℕ → Type 0) (x : ℕ) (l : List ℕ) → P x → All P l → All P (arrange x l)
all_arrange P x [] h k = (h, tt)
all_arrange P x (y ∷ l) h k = go (ltb y x) (all_arrange P x l h k.1)
  where
    go : (b : Bool) → All P (arrange x l) → All P (cond b (y ∷ arrange x l) (x ∷ y ∷ l))
    go true ih = (k.0, ih)
    go false ih = (h, k)

all_sort : (P : ℕ → Type 0) (o : List ℕ) → All P o → All P (sort o)
all_sort P [] k = tt
all_sort P (x ∷ o) k = all_arrange P x (sort o) k.0 (all_sort P o k.1)

module _ {S : Type 0} {A : Type 0} (step : ℕ → S → S) (answer : ℕ → S → A) (Good : S → Type 0) (good : (i : ℕ) (s : S) → Good s → Good (step i s)) where
  -- an event stands before smaller ones only if it is independent of them
  abbrev pub Kept : List ℕ → Type 0
  Kept [] = Unit {0}
  Kept (x ∷ o) = All (λ y. y < x → Independent step answer Good y x) o × Kept o

  agrees_trans : {o p q : List ℕ} {s : S} → Agrees step answer o p s → Agrees step answer p q s → Agrees step answer o q s
  agrees_trans g h = record { states = g.states ∙ h.states; answers = λ i. g.answers i ∙ h.answers i }

  agrees_cons : (x : ℕ) {o p : List ℕ} {s : S} → Agrees step answer o p (step x s) → Agrees step answer (x ∷ o) (x ∷ p) s
  agrees_cons x {s = s} g = record { states = g.states; answers = λ i. ap (λ r. cond (eqb i x) (Some (answer x s)) r) (g.answers i) }

  -- the first two change places
  swapped : (y x : ℕ) (l : List ℕ) (s : S) → Good s → y < x → Independent step answer Good y x → Agrees step answer (x ∷ y ∷ l) (y ∷ x ∷ l) s
  swapped y x l s g h d = record {
    states = ap (run step l) (sym (d.states s g));
    answers = λ i. rw (d.first s g, d.second s g, d.states s g)
        (cond_swap (eqb i x) (eqb i y) (Some (answer x s)) (Some (answer y s)) (answer_in step answer l (step y (step x s)) i)
        (λ u v. let p = eqb-true i x u in let q = eqb-true i y v in omega arith));
  }

  moved : (x : ℕ) (l : List ℕ) (s : S) → Good s → All (λ y. y < x → Independent step answer Good y x) l → Agrees step answer (x ∷ l) (arrange x l) s
  moved x [] s g k = record { states = refl; answers = λ i. refl }
  moved x (y ∷ l) s g k = go (ltb y x) refl (moved x l (step y s) (good y s g) k.1)
    where
      go : (b : Bool) → ltb y x ≡ b → Agrees step answer (x ∷ l) (arrange x l) (step y s) → Agrees step answer (x ∷ y ∷ l) (cond b (y ∷ arrange x l) (x ∷ y ∷ l)) s
      go true e ih = agrees_trans (swapped y x l s g (ltb-true y x e) (k.0 (ltb-true y x e))) (agrees_cons y ih)
      go false e ih = record { states = refl; answers = λ i. refl }

  sorted_agrees : (o : List ℕ) → Kept o → (s : S) → Good s → Agrees step answer o (sort o) s
  sorted_agrees [] k s g = record { states = refl; answers = λ i. refl }
  sorted_agrees (x ∷ o) k s g = agrees_trans (agrees_cons x (sorted_agrees o k.1 (step x s) (good x s g)))
      (moved x (sort o) s g (all_sort (λ y. y < x → Independent step answer Good y x) o k.0))

-- an order of 0 .. n-1, sorted, is the recorded order
arrange_comm : (x y : ℕ) (l : List ℕ) → arrange x (arrange y l) ≡ arrange y (arrange x l)
arrange_comm x y [] = split (ltb y x)
    (λ e. let f = le-ltb x y (omega (arith, ltb-true y x e)) in rw (e, f) refl)
    (λ e. split (ltb x y) (λ f. rw (e, f) refl) (λ f. rw (e, f) (let q : x ≡ y = omega (arith, ltb-false y x e, ltb-false x y f) in rw q refl)))
arrange_comm x y (z ∷ l) = go (ltb z x) refl (ltb z y) refl (arrange_comm x y l)
  where
    go : (b : Bool) → ltb z x ≡ b → (c : Bool) → ltb z y ≡ c → arrange x (arrange y l) ≡ arrange y (arrange x l)
        → arrange x (cond c (z ∷ arrange y l) (y ∷ z ∷ l)) ≡ arrange y (cond b (z ∷ arrange x l) (x ∷ z ∷ l))
    go true u true v ih = rw (u, v, ih) refl
    go true u false v ih = let w = lt-ltb y x (omega (arith, ltb-true z x u, ltb-false z y v)) in rw (w, u, v) refl
    go false u true v ih = let w = lt-ltb x y (omega (arith, ltb-false z x u, ltb-true z y v)) in rw (w, v, u) refl
    go false u false v ih = split (ltb y x)
        (λ e. let f = le-ltb x y (omega (arith, ltb-true y x e)) in rw (e, f, u) refl)
        (λ e. split (ltb x y) (λ f. rw (e, f, v) refl) (λ f. rw (e, f) (let q : x ≡ y = omega (arith, ltb-false y x e, ltb-false x y f) in rw q refl)))

-- without its first x
abbrev erase : ℕ → List ℕ → List ℕ
erase x [] = []
erase x (y ∷ l) = cond (eqb x y) l (y ∷ erase x l)

sort_erase : (x : ℕ) (o : List ℕ) → has x o ≡ true → sort o ≡ arrange x (sort (erase x o))
sort_erase x [] h = absurd (false≢true h)
sort_erase x (y ∷ o) h = go (eqb x y) refl h (sort_erase x o)
  where
    go : (b : Bool) → eqb x y ≡ b → (b || has x o) ≡ true → (has x o ≡ true → sort o ≡ arrange x (sort (erase x o))) → arrange y (sort o) ≡ arrange x (sort (cond b o (y ∷ erase x o)))
    go true e k ih = rw (eqb-true x y e) refl
    go false e k ih = rw (ih k) (arrange_comm y x (sort (erase x o)))

length_erase : (x : ℕ) (o : List ℕ) → has x o ≡ true → suc (length (erase x o)) ≡ length o
length_erase x [] h = absurd (false≢true h)
length_erase x (y ∷ o) h = go (eqb x y) h (length_erase x o)
  where
    go : (b : Bool) → (b || has x o) ≡ true → (has x o ≡ true → suc (length (erase x o)) ≡ length o) → suc (length (cond b o (y ∷ erase x o))) ≡ suc (length o)
    go true k ih = refl
    go false k ih = ap suc (ih k)

has_erase : (x i : ℕ) (o : List ℕ) → (i ≡ x → ⊥) → has i o ≡ true → has i (erase x o) ≡ true
has_erase x i [] n h = h
has_erase x i (y ∷ o) n h = go (eqb x y) refl (eqb i y) refl h (has_erase x i o n)
  where
    go : (b : Bool) → eqb x y ≡ b → (c : Bool) → eqb i y ≡ c → (c || has i o) ≡ true → (has i o ≡ true → has i (erase x o) ≡ true) → has i (cond b o (y ∷ erase x o)) ≡ true
    go true e true f k ih = absurd (n (eqb-true i y f ∙ sym (eqb-true x y e)))
    go true e false f k ih = k
    go false e true f k ih = rw f refl
    go false e false f k ih = rw f (ih k)

arrange_last : (x b n : ℕ) → b + n ≤ x → arrange x (from b n) ≡ from b n ++ (x ∷ [])
arrange_last x b zero h = refl
arrange_last x b (suc n) h = rw (lt-ltb b x (omega arith)) (ap {B = List ℕ} (λ l. b ∷ l) (arrange_last x (suc b) n (omega arith)))

from_last : (b n : ℕ) → from b n ++ ((b + n) ∷ []) ≡ from b (suc n)
from_last b zero = let e : b + 0 ≡ b = omega arith in rw e refl
from_last b (suc n) = let e : b + suc n ≡ suc b + n = omega arith in rw e (ap {B = List ℕ} (λ l. b ∷ l) (from_last (suc b) n))

sort_order : (n : ℕ) (o : List ℕ) → IsOrderOf n o → sort o ≡ from 0 n
sort_order zero [] p = refl
sort_order zero (x ∷ o) p = let e = p.size in absurd (omega arith)
sort_order (suc n) o p =
    let h = p.full n (omega arith) in
    let e = length_erase n o h in
    let f = p.size in
    let ih = sort_order n (erase n o) (record { size = omega arith; full = λ i l. has_erase n i o (omega arith) (p.full i (omega arith)) }) in
    let z : 0 + n ≡ n = omega arith in
    sort_erase n o h ∙ ap (arrange n) ih ∙ arrange_last n 0 n (omega arith) ∙ (rw z at (from_last 0 n))

-- how often a number stands in a list
abbrev count : ℕ → List ℕ → ℕ
count x [] = 0
count x (y ∷ o) = cond (eqb x y) (suc (count x o)) (count x o)

count_arrange : (x y : ℕ) (l : List ℕ) → count x (arrange y l) ≡ count x (y ∷ l)
count_arrange x y [] = refl
count_arrange x y (z ∷ l) = go (ltb z y) (count_arrange x y l)
  where
    swap : (b c : Bool) (m : ℕ) → cond c (suc (cond b (suc m) m)) (cond b (suc m) m) ≡ cond b (suc (cond c (suc m) m)) (cond c (suc m) m)
    swap true true m = refl
    swap true false m = refl
    swap false true m = refl
    swap false false m = refl

    go : (b : Bool) → count x (arrange y l) ≡ count x (y ∷ l) → count x (cond b (z ∷ arrange y l) (y ∷ z ∷ l)) ≡ count x (y ∷ z ∷ l)
    go true ih = ap (λ m. cond (eqb x z) (suc m) m) ih ∙ swap (eqb x y) (eqb x z) (count x l)
    go false ih = refl

count_sort : (x : ℕ) (o : List ℕ) → count x (sort o) ≡ count x o
count_sort x [] = refl
count_sort x (y ∷ o) = count_arrange x y (sort o) ∙ ap (λ m. cond (eqb x y) (suc m) m) (count_sort x o)

count_below_lem : (x b n : ℕ) → x < b → count x (from b n) ≡ 0
count_below_lem x b zero h = refl
count_below_lem x b (suc n) h = rw (ne_eqb x b (omega arith)) (count_below_lem x (suc b) n (omega arith))

count_above : (x b n : ℕ) → b + n ≤ x → count x (from b n) ≡ 0
count_above x b zero h = refl
count_above x b (suc n) h = rw (ne_eqb x b (omega arith)) (count_above x (suc b) n (omega arith))

count_from : (x b n : ℕ) → count x (from b n) ≤ 1
count_from x b zero = omega arith
count_from x b (suc n) = split (eqb x b)
    (λ e. let h = count_below_lem x (suc b) n (omega (arith, eqb-true x b e)) in rw (e, h) (omega arith))
    (λ e. rw e (count_from x (suc b) n))

has_count : (x : ℕ) (o : List ℕ) → has x o ≡ true → 1 ≤ count x o
has_count x [] h = absurd (false≢true h)
has_count x (y ∷ o) h = go (eqb x y) h (has_count x o)
  where
    go : (b : Bool) → (b || has x o) ≡ true → (has x o ≡ true → 1 ≤ count x o) → 1 ≤ cond b (suc (count x o)) (count x o)
    go true k ih = omega arith
    go false k ih = ih k

module _ {n : ℕ} {o : List ℕ} (p : IsOrderOf n o) where
  -- each event stands in an order at most once, and no other number does
  pub once : (x : ℕ) → count x o ≤ 1
  once x = rw (sym (count_sort x o) ∙ ap (count x) (sort_order n o p)) (count_from x 0 n)

  pub in_range_lem : (x : ℕ) → has x o ≡ true → x < n
  in_range_lem x h = split (ltb x n) (ltb-true x n)
      (λ e. let k : count x o ≡ 0 = sym (count_sort x o) ∙ ap (count x) (sort_order n o p) ∙ count_above x 0 n (omega (arith, ltb-false x n e)) in absurd (omega (arith, has_count x o h)))

stands_has : (i j : ℕ) (o : List ℕ) → stands i j o ≡ true → (has i o ≡ true) × (has j o ≡ true)
stands_has i j [] h = absurd (false≢true h)
stands_has i j (x ∷ o) h = go (eqb i x) (has j o) refl h (stands_has i j o)
  where
    go : (b c : Bool) → has j o ≡ c → ((b && c) || stands i j o) ≡ true → (stands i j o ≡ true → (has i o ≡ true) × (has j o ≡ true)) → ((b || has i o) ≡ true) × ((eqb j x || has j o) ≡ true)
    go true true f k ih = (refl, rw f (or-true (eqb j x)))
    go true false f k ih = (refl, rw (ih k).1 (or-true (eqb j x)))
    go false true f k ih = ((ih k).0, rw f (or-true (eqb j x)))
    go false false f k ih = ((ih k).0, rw (ih k).1 (or-true (eqb j x)))

-- of two events that stand once, not each stands before the other
one_way : (i j : ℕ) (o : List ℕ) → (i ≡ j → ⊥) → count i o ≤ 1 → count j o ≤ 1 → stands i j o ≡ true → stands j i o ≡ true → ⊥
one_way i j [] n a b h k = false≢true h
one_way i j (x ∷ o) n a b h k = go (eqb i x) refl (eqb j x) refl a b h k (one_way i j o n)
  where
    go : (c : Bool) → eqb i x ≡ c → (d : Bool) → eqb j x ≡ d → cond c (suc (count i o)) (count i o) ≤ 1 → cond d (suc (count j o)) (count j o) ≤ 1
        → ((c && has j o) || stands i j o) ≡ true → ((d && has i o) || stands j i o) ≡ true
        → (count i o ≤ 1 → count j o ≤ 1 → stands i j o ≡ true → stands j i o ≡ true → ⊥) → ⊥
    go true e true f a b h k ih = n (eqb-true i x e ∙ sym (eqb-true j x f))
    go true e false f a b h k ih = let m = has_count i o (stands_has j i o k).1 in omega arith
    go false e true f a b h k ih = let m = has_count j o (stands_has i j o h).1 in omega arith
    go false e false f a b h k ih = ih a b h k

-- so in an order of the events
pub not_both : {n : ℕ} {o : List ℕ} → IsOrderOf n o → (i j : ℕ) → (i ≡ j → ⊥) → stands i j o ≡ true → stands j i o ≡ true → ⊥
not_both {o = o} p i j d h k = one_way i j o d (once p i) (once p j) h k

-- an event that stands before itself stands twice, and in an order of the events none does
stands_twice : (i : ℕ) (o : List ℕ) → stands i i o ≡ true → 2 ≤ count i o
stands_twice i [] h = absurd (false≢true h)
stands_twice i (x ∷ o) h = go (eqb i x) h (stands_twice i o)
  where
    go : (b : Bool) → ((b && has i o) || stands i i o) ≡ true → (stands i i o ≡ true → 2 ≤ count i o) → 2 ≤ cond b (suc (count i o)) (count i o)
    go true k ih = or_cases (has i o) (stands i i o) k (λ e. let m = has_count i o e in omega arith) (λ e. let m = ih e in omega arith)
    go false k ih = ih k

pub not_twice : {n : ℕ} {o : List ℕ} → IsOrderOf n o → (i : ℕ) → stands i i o ≡ false
not_twice {o = o} p i = split (stands i i o) (λ e. absurd (omega (arith, stands_twice i o e, once p i))) (λ e. e)

all_has : (P : ℕ → Type 0) (o : List ℕ) → ((y : ℕ) → has y o ≡ true → P y) → All P o
all_has P [] h = tt
all_has P (x ∷ o) h = (h x (rw (eq-eqb x x refl) refl), all_has P o (λ y e. h y (rw e (or-true (eqb y x)))))

module _ {S : Type 0} {A : Type 0} (step : ℕ → S → S) (answer : ℕ → S → A) (Good : S → Type 0) (good : (i : ℕ) (s : S) → Good s → Good (step i s)) where
  kept_of : (o : List ℕ) → ((y x : ℕ) → y < x → stands x y o ≡ true → Independent step answer Good y x) → Kept step answer Good good o
  kept_of [] h = tt
  kept_of (x ∷ o) h = (
    all_has (λ y. y < x → Independent step answer Good y x) o (λ y e l. h y x l (rw (eq-eqb x x refl, e) refl)),
    kept_of o (λ y z l e. h y z l (rw e (or-true (eqb z x && has y o)))),
  )

  -- an order that has each dependent pair in recorded order agrees with the recorded order
  pub order_agrees : (n : ℕ) (o : List ℕ) → IsOrderOf n o → (dependent : ℕ → ℕ → Bool)
      → ((i j : ℕ) → i < j → j < n → dependent i j ≡ false → Independent step answer Good i j)
      → ((i j : ℕ) → i < j → j < n → dependent i j ≡ true → stands i j o ≡ true)
      → (s : S) → Good s → Agrees step answer o (from 0 n) s
  order_agrees n o p dependent free kept s g = rw (← sort_order n o p) (sorted_agrees step answer Good good o (kept_of o between) s g)
    where
      between : (y x : ℕ) → y < x → stands x y o ≡ true → Independent step answer Good y x
      between y x l e =
          let b = in_range_lem p x (stands_has x y o e).0 in
          split (dependent y x)
          (λ d. absurd (one_way y x o (omega arith) (once p y) (once p x) (kept y x l b d) e))
          (λ d. free y x l b d)
