-- A pass over the first n elements of an array. Its invariant: what is written, followed by what the pass makes of the elements that
-- are left, is what it makes of all. Assumes nothing.
use mathlib.Core.Path.{◌≡◌, sym, ap, ◌∙◌, subst}
use mathlib.Core.List.{List, [], ◌∷◌, ◌++◌, map, append-nil}
use Prim.Native.Nat.{ℕ, suc, ◌+◌, ◌≤◌, ◌<◌}
use native.Mathlib.Decide.{ℕ_discrete}
use native.Mathlib.Numerals.{add-one}
use native.Mathlib.Omega.{arith}
use lib.ListN.{length, take, drop, get_or, set, drop_of_length-le, length-map}
use lib.Seq.{take-suc, take-suc-set, slice-cons, length-take-le, take-take, append_snoc, get_or-set_same, get_or-set_other}

module _ {A : Type 0} where
  -- the element at i, taken off what is left
  pub next : (l : List A) (n i : ℕ) (d : A) → i < n → n ≤ length l → drop i (take n l) ≡ get_or l i d ∷ drop (i + 1) (take n l)
  next l n i d h k = slice-cons i n l d h k ∙ ap (λ (j : ℕ). get_or l i d ∷ drop j (take n l)) (sym (add-one i))

  -- nothing is left
  pub ended : (l : List A) (n i : ℕ) → n ≤ i → n ≤ length l → drop i (take n l) ≡ []
  ended l n i h k = drop_of_length-le (take n l) (subst (λ (j : ℕ). j ≤ i) (sym (length-take-le n l k)) h)

  -- the element at i joins those that are passed
  pub passed : (l : List A) (n i : ℕ) (d : A) → i < n → n ≤ length l → take (i + 1) (take n l) ≡ take i (take n l) ++ (get_or l i d ∷ [])
  passed l n i d h k =
      ap (λ (j : ℕ). take j (take n l)) (add-one i) ∙ take-take (suc i) n l h ∙ take-suc l i d (omega arith)
      ∙ ap (λ (s : List A). s ++ (get_or l i d ∷ [])) (sym (take-take i n l (omega arith)))

  -- an element put at the end of what is written
  emit : (out rest : List A) (k : ℕ) (y : A) → k < length out → take (k + 1) (set out k y) ++ rest ≡ take k out ++ y ∷ rest
  emit out rest k y h =
      ap (λ (j : ℕ). take j (set out k y) ++ rest) (add-one k) ∙ ap (λ (s : List A). s ++ rest) (take-suc-set out k y h)
      ∙ append_snoc (take k out) y rest

-- an array's length, as a parameter's range states it: of the list of its elements' parts
pub length_mapped : (X Y : Type 0) (f : X → Y) (l : List X) (n : ℕ) → length (map f l) ≡ n → length l ≡ n
length_mapped X Y f l n e = sym (length-map l f) ∙ e

-- a value by cases on an enum that is known at an arm
pub by_arm : {A B : Type 0} (f : A → B) {a b : A} {r : B} → a ≡ b → r ≡ f b → r ≡ f a
by_arm f e g = g ∙ sym (ap f e)

-- a pass f over the first n elements of l that has come to index i and has written k elements of out
module _ {A B : Type 0} (f : List A → List B) (l : List A) (n i : ℕ) (out whole : List B) (k : ℕ) (fits : n ≤ length l)
    (inv : take k out ++ f (drop i (take n l)) ≡ whole) where
  -- f makes y of the element at i, and it is written
  pub wrote : (d : A) (y : B) → i < n → k < length out → f (get_or l i d ∷ drop (i + 1) (take n l)) ≡ y ∷ f (drop (i + 1) (take n l))
      → take (k + 1) (set out k y) ++ f (drop (i + 1) (take n l)) ≡ whole
  wrote d y h g e =
      emit out (f (drop (i + 1) (take n l))) k y g ∙ ap (λ r. take k out ++ r) (sym (ap f (next l n i d h fits) ∙ e)) ∙ inv

  -- f makes nothing of it
  pub skipped : (d : A) → i < n → f (get_or l i d ∷ drop (i + 1) (take n l)) ≡ f (drop (i + 1) (take n l)) → take k out ++ f (drop (i + 1) (take n l)) ≡ whole
  skipped d h e = ap (λ r. take k out ++ r) (sym (ap f (next l n i d h fits) ∙ e)) ∙ inv

  pub finished : n ≤ i → f [] ≡ [] → take k out ≡ whole
  finished h e = sym (append-nil (take k out)) ∙ ap (λ r. take k out ++ r) (sym (ap f (ended l n i h fits) ∙ e)) ∙ inv

-- one element more at the end of the first k
pub pushed : {A : Type 0} (l : List A) (k : ℕ) (y : A) → k < length l → take (k + 1) (set l k y) ≡ take k l ++ (y ∷ [])
pushed l k y h = ap (λ j. take j (set l k y)) (add-one k) ∙ take-suc-set l k y h

-- an array that holds f i at each i below k, and one place more
pub noted_more : {A : Type 0} (f : ℕ → A) (d : A) (l : List A) (k : ℕ) {x : A} → k < length l → x ≡ f k → ((i : ℕ) → i < k → get_or l i d ≡ f i)
    → (i : ℕ) → i < k + 1 → get_or (set l k x) i d ≡ f i
noted_more f d l k {x} room e h i m =
    elim (ℕ_discrete i k) [ yes u ↦ rw (u, get_or-set_same l k x d room) e | no ne ↦ rw (get_or-set_other l k i x d ne) (h i (omega arith)) ]

-- what holds at each i below k, and at k
pub holds_more : (P : ℕ → Type 0) (k : ℕ) → P k → ((i : ℕ) → i < k → P i) → (i : ℕ) → i < k + 1 → P i
holds_more P k p h i m = elim (ℕ_discrete i k) [ yes u ↦ subst P (sym u) p | no ne ↦ h i (omega arith) ]
