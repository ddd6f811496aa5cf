-- Laws of keys.
use Prim.Native.Nat.{ℕ, ◌+◌, ◌-◌, ◌≤◌}
use mathlib.Core.Bool.{Bool, true, false, cond, ◌&&◌, false≢true}
use mathlib.Core.List.{List, [], ◌∷◌, ◌++◌}
use Rattle.std.specs.Prelude.{Option, None, Some, MatchBool}
use mathlib.Core.Path.{◌≡◌, refl, sym, ◌∙◌, ap}
use native.Mathlib.Omega.{arith}
use borrow.Author.Tests.{eq-eqb, ne_eqb, eqb-true}
use lib.Dec.{eqb}
use lib.Pointwise.{pointwise}
use lib.ListN.{length, take, drop, length-append, length-drop}
use Rattle.text_numbers.specs.Reading.{Reader, starts_with, keyed, word_or}
use Rattle.text_numbers.proofs.Readers.{on_cond}

-- a text begins with a key that stands in front of it
pub starts_self : (key s : List ℕ) → starts_with key (key ++ s) ≡ true
unfolding starts_with
starts_self [] s = refl
starts_self (k ∷ key) s = rw (eq-eqb k k refl) (starts_self key s)

-- a text that begins with a key is the key and the rest
pub starts_key : (key s : List ℕ) → starts_with key s ≡ true → s ≡ key ++ drop (length key) s
unfolding starts_with
starts_key [] s e = refl
starts_key (k ∷ key) [] e = absurd (false≢true e)
starts_key (k ∷ key) (b ∷ s) e =
    on_cond (eqb b k) (λ q p. rw (eqb-true b k q) (ap (λ (l : List ℕ). k ∷ l) (starts_key key s p))) (λ q p. absurd (false≢true p)) e

-- the test compares the key with as many bytes of the text
eqb_swap : (a b : ℕ) → eqb a b ≡ eqb b a
eqb_swap a b = go (eqb a b) refl
  where
    go : (t : Bool) → eqb a b ≡ t → t ≡ eqb b a
    go true e = sym (eq-eqb b a (sym (eqb-true a b e)))
    go false e = sym (ne_eqb b a (λ h. false≢true (sym e ∙ eq-eqb a b (sym h))))

pub starts_pointwise : (key s : List ℕ) → starts_with key s ≡ pointwise eqb key (take (length key) s)
unfolding starts_with
starts_pointwise [] s = refl
starts_pointwise (k ∷ key) [] = refl
starts_pointwise (k ∷ key) (b ∷ s) = rw (eqb_swap b k) (both_ways (eqb k b) (starts_pointwise key s))
  where
    both_ways : (t : Bool) {u v : Bool} → u ≡ v → cond t u false ≡ (t && v)
    both_ways true e = e
    both_ways false e = refl

-- a key, and then what is read behind it: P is what is known of the reading
pub keyed_by : {A P : Type 0} (key : List ℕ) (read : Reader A) (s : List ℕ) (at : ℕ) {r : Option (A × ℕ)} → MatchBool (starts_with key (drop at s)) P (r ≡ None)
    → (P → r ≡ read s (at + length key)) → r ≡ keyed key read s at
unfolding keyed
keyed_by {P = P} key read s at {r} e reads = by_key (starts_with key (drop at s)) e
  where
    by_key : (t : Bool) → MatchBool t P (r ≡ None) → r ≡ cond t (read s (at + length key)) None
    by_key true e = reads e
    by_key false e = e

-- a word that stands for one value
pub word_by : {A P : Type 0} (key : List ℕ) (a : A) (s : List ℕ) (at : ℕ) {r : Option (A × ℕ)} → MatchBool (starts_with key (drop at s)) P (r ≡ None)
    → (P → r ≡ Some (a, at + length key)) → r ≡ word_or key a (λ t n. None) s at
unfolding word_or
word_by key a s at e reads = keyed_by key (λ t n. Some (a, n)) s at e reads ∙ unfold keyed in refl

-- what a test found of a key at a place of a text
module _ (key s : List ℕ) (at : ℕ) {found : Bool} (e : found ≡ starts_with key (drop at s)) where
  -- the key lies within the text
  pub key_room : found ≡ true → length key ≤ length s - at
  key_room f = omega (arith, simp (length-append, length-drop) at (ap length (starts_key key (drop at s) (sym e ∙ f))))

  -- a key, and then a value
  pub past_key : {A : Type 0} (read : Reader A) {x : Option (A × ℕ)} → found ≡ true → x ≡ read s (at + length key) → x ≡ keyed key read s at
  unfolding keyed
  past_key read f p = rw (← e, f) p
