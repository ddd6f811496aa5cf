-- The lines of a text read one after the other: the loop over the text, and what is read of each line. Assumes nothing.
use Rattle.std.specs.Prelude.{Result, Ok, Err}
use Prim.Native.Nat.{ℕ, suc, ◌+◌, ◌≤◌, ◌<◌}
use mathlib.Core.List.{List, [], ◌∷◌, ◌++◌, append_assoc, append-nil}
use mathlib.Core.Path.{◌≡◌, refl, sym, ◌∙◌, ap}
use native.Mathlib.Numerals.{add-one}
use native.Mathlib.Omega.{arith}
use lib.ListN.{length, get_or, drop, drop_of_length-le}
use lib.Seq.{drop-cons}
use Rattle.text_reader.specs.Each.{in_front, read_each}

-- the values of earlier lines, before those of the others
abbrev behind : {R A : Type 0} → List A → Result (List A) R → Result (List A) R
behind earlier (Err r) = Err r
behind earlier (Ok vs) = Ok (earlier ++ vs)

behind_none : {R A : Type 0} (x : Result (List A) R) → x ≡ behind [] x
behind_none (Err r) = refl
behind_none (Ok vs) = refl

behind_one : {R A : Type 0} (earlier : List A) (a : A) (x : Result (List A) R) → behind earlier (in_front (Ok a) x) ≡ behind (earlier ++ (a ∷ [])) x
behind_one earlier a (Err r) = refl
behind_one earlier a (Ok vs) = ap Ok (sym (append_assoc earlier (a ∷ []) vs))

-- the invariant of a loop over the lines: the values so far, and those of the lines from line k on, are those of all
unfoldable pub Rest : {R A : Type 0} → (ℕ → List ℕ → Result A R) → List (List ℕ) → List A → ℕ → Type 0
Rest read ls earlier k = read_each read 0 ls ≡ behind earlier (read_each read k (drop k ls))

module _ {R A : Type 0} (read : ℕ → List ℕ → Result A R) (ls : List (List ℕ)) (earlier : List A) (k : ℕ) where
  pub rest_start : earlier ≡ [] → k ≡ 0 → Rest read ls earlier k
  unfolding Rest
  rest_start e z = rw (e, z) (behind_none (read_each read 0 ls))

  module _ (rest : Rest read ls earlier k) where
    pub rest_end : length ls ≤ k → Ok earlier ≡ read_each read 0 ls
    unfolding read_each Rest
    rest_end h = sym (rest ∙ rw (drop_of_length-le ls h, append-nil))

    module _ (here : k < length ls) (line : List ℕ) (e : line ≡ get_or ls k []) where
      from_here : drop k ls ≡ line ∷ drop (k + 1) ls
      from_here = rw (e, add-one k) (drop-cons ls k [] here)

      pub rest_refused : (r : R) → read k line ≡ Err r → Err r ≡ read_each read 0 ls
      unfolding read_each Rest
      rest_refused r p = sym (rest ∙ rw (from_here, p))

      pub rest_read : (a : A) → read k line ≡ Ok a → Rest read ls (earlier ++ (a ∷ [])) (k + 1)
      unfolding read_each Rest
      rest_read a p = rest ∙ rw (from_here, p) (behind_one earlier a (read_each read (k + 1) (drop (k + 1) ls)))

-- ---- what is read of each line
-- an answer is no refusal
pub refuses : {A B P : Type 0} {a : A} {b : B} → Err a ≡ Ok b → P
refuses e = absurd cc

pub accepts : {A B P : Type 0} {a : A} {b : B} → Ok b ≡ Err a → P
accepts e = absurd cc

-- of each line, with its number and its value, something holds
abbrev pub Each : {A : Type 0} → (ℕ → List ℕ → A → Type 0) → ℕ → List (List ℕ) → List A → Type 0
Each P k [] [] = Unit {0}
Each P k [] (a ∷ vs) = ⊥
Each P k (l ∷ ls) [] = ⊥
Each P k (l ∷ ls) (a ∷ vs) = P k l a × Each P (k + 1) ls vs

pub each_length : {A : Type 0} (P : ℕ → List ℕ → A → Type 0) (k : ℕ) (ls : List (List ℕ)) (vs : List A) → Each P k ls vs → length ls ≡ length vs
each_length P k [] [] h = refl
each_length P k [] (a ∷ vs) h = absurd h
each_length P k (l ∷ ls) [] h = absurd h
each_length P k (l ∷ ls) (a ∷ vs) h = ap suc (each_length P (k + 1) ls vs h.1)

module _ {R A : Type 0} (read : ℕ → List ℕ → Result A R) where
  -- values are read exactly if each line reads as its value
  pub each_only : (P : ℕ → List ℕ → A → Type 0) → ((k : ℕ) (l : List ℕ) (a : A) → read k l ≡ Ok a → P k l a)
      → (k : ℕ) (ls : List (List ℕ)) (vs : List A) → read_each read k ls ≡ Ok vs → Each P k ls vs
  unfolding read_each
  each_only P only k [] [] e = tt
  each_only P only k [] (a ∷ vs) e = absurd cc
  each_only P only k (l ∷ ls) vs e = go (read k l) refl (read_each read (k + 1) ls) (each_only P only (k + 1) ls) vs e
    where
      go : (x : Result A R) → read k l ≡ x → (y : Result (List A) R) → ((bs : List A) → y ≡ Ok bs → Each P (k + 1) ls bs) → (bs : List A) → in_front x y ≡ Ok bs → Each P k (l ∷ ls) bs
      go (Err r) p y ih bs e = refuses e
      go (Ok a) p (Err r) ih bs e = refuses e
      go (Ok a) p (Ok vs) ih [] e = absurd cc
      go (Ok a) p (Ok vs) ih (b ∷ bs) e =
          let h : a ≡ b = cc in
          let t : vs ≡ bs = cc in
          (only k l b (p ∙ ap Ok h), ih bs (ap Ok t))

  pub each_reads : (P : ℕ → List ℕ → A → Type 0) → ((k : ℕ) (l : List ℕ) (a : A) → P k l a → read k l ≡ Ok a)
      → (k : ℕ) (ls : List (List ℕ)) (vs : List A) → Each P k ls vs → read_each read k ls ≡ Ok vs
  unfolding read_each
  each_reads P reads k [] [] h = refl
  each_reads P reads k [] (a ∷ vs) h = absurd h
  each_reads P reads k (l ∷ ls) [] h = absurd h
  each_reads P reads k (l ∷ ls) (a ∷ vs) h = rw (reads k l a h.0, each_reads P reads (k + 1) ls vs h.1)

  -- a refusal is that of one of the lines
  pub each_refused : (k : ℕ) (ls : List (List ℕ)) (r : R) → read_each read k ls ≡ Err r → (j : ℕ) × (l : List ℕ) × (k ≤ j) × (j < k + length ls) × (read j l ≡ Err r)
  unfolding read_each
  each_refused k [] r e = accepts e
  each_refused k (l ∷ ls) r e = go (read k l) refl (read_each read (k + 1) ls) (each_refused (k + 1) ls) e
    where
      go : (x : Result A R) → read k l ≡ x → (y : Result (List A) R) → ((q : R) → y ≡ Err q → (j : ℕ) × (m : List ℕ) × (k + 1 ≤ j) × (j < k + 1 + length ls) × (read j m ≡ Err q))
          → in_front x y ≡ Err r → (j : ℕ) × (m : List ℕ) × (k ≤ j) × (j < k + suc (length ls)) × (read j m ≡ Err r)
      go (Err q) p y ih e = let h : q ≡ r = cc in (k, l, omega arith, omega arith, p ∙ ap Err h)
      go (Ok a) p (Err q) ih e =
          let h : q ≡ r = cc in
          let (j, m, b, c, u) = ih r (ap Err h) in
          (j, m, omega arith, omega arith, u)
      go (Ok a) p (Ok vs) ih e = accepts e
