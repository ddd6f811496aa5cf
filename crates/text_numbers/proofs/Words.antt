-- A word that stands for one value, before the texts of the other values.
use Prim.Native.Nat.{ℕ, zero, suc, ◌+◌, ◌/◌, ◌%◌, ◌≤◌}
use mathlib.Core.Bool.{false}
use mathlib.Core.List.{List, [], ◌∷◌, ◌++◌, append_assoc}
use mathlib.Core.Logic.{◌⊎◌, ⊎_elim}
use Rattle.std.specs.Prelude.{Some}
use mathlib.Core.Path.{◌≡◌, refl, ◌∙◌}
use native.Mathlib.Decide.{dec_lt}
use native.Mathlib.Omega.{arith}
use borrow.Author.Tests.{ne_eqb}
use lib.ListN.{length, get_or, drop}
use lib.Seq.{drop-drop}
use Rattle.text_numbers.specs.Reading.{Reader, starts_with, word_or}
use Rattle.text_numbers.specs.Print.{decimal, print_number}
use Rattle.text_numbers.specs.Format.{Ends, Format}
use Rattle.text_numbers.proofs.Readers.{same_value, same_place, on_cond}
use Rattle.text_numbers.proofs.Keys.{starts_self, starts_key}
use Rattle.text_numbers.proofs.Print.{decimal_small, decimal_big}

-- ---- the word of one value, and a format of all others, none of whose texts begins with the word
module _ {A : Type 0} {ok ok' : A → Type 0} {print print' : A → List ℕ} {other : Reader A} (word : List ℕ) (first : A)
    (itself : ok first × (print first ≡ word)) (either : (a : A) → ok a → (a ≡ first) ⊎ ok' a) (back : (a : A) → ok' a → ok a × (print a ≡ print' a))
    (apart : (a : A) → ok' a → (rest : List ℕ) → starts_with word (print' a ++ rest) ≡ false) (format : Format ok' print' other) where
  word_reads : (a : A) → ok a → (s : List ℕ) (at : ℕ) (rest : List ℕ) → Ends rest → drop at s ≡ print a ++ rest
      → word_or word first other s at ≡ Some (a, at + length (print a))
  unfolding word_or
  word_reads a o s at rest e h =
      ⊎_elim
      (λ p. let w : print a ≡ word = rw p itself.1 in rw (h, w, starts_self word rest) (rw p))
      (λ q. let w : print a ≡ print' a = (back a q).1 in rw (h, w, apart a q rest) (format.reads a q s at rest e (rw w at h)))
      (either a o)

  word_only : (s : List ℕ) (at : ℕ) (a : A) (n : ℕ) → word_or word first other s at ≡ Some (a, n)
      → ok a × (drop at s ≡ print a ++ drop n s) × (n ≡ at + length (print a))
  unfolding word_or
  word_only s at a n e =
      on_cond (starts_with word (drop at s))
      (λ k p. let x : first ≡ a = same_value p in
      let y : at + length word ≡ n = same_place p in
      rw (← x, ← y, itself.1) (itself.0, starts_key word (drop at s) k ∙ rw drop-drop, refl))
      (λ k p. let (o, t, l) = format.only s at a n p in
      let w = back a o in
      (w.0, t ∙ rw w.1, l ∙ rw w.1)) e

  pub word_format : Format ok print (word_or word first other)
  word_format = record { reads = word_reads; only = word_only }

-- ---- a number's text begins with a digit, so with no word that begins otherwise
first_digit : (k n : ℕ) (t : List ℕ) → (48 ≤ get_or (decimal (suc k) n ++ t) 0 0) × (get_or (decimal (suc k) n ++ t) 0 0 ≤ 57)
unfolding decimal
first_digit zero n t =
    elim (dec_lt n 10) [
      | yes l ↦ rw (decimal_small 0 n l) (omega arith, omega arith)
      | no l ↦ rw (decimal_big 0 n (omega arith)) (omega arith, omega arith)
    ]
first_digit (suc k) n t =
    elim (dec_lt n 10) [
      | yes l ↦ rw (decimal_small (suc k) n l) (omega arith, omega arith)
      | no l ↦ rw (decimal_big (suc k) n (omega arith), append_assoc) (first_digit k (n / 10) ((48 + n % 10) ∷ [] ++ t))
    ]

starts_first : (k : ℕ) (key s : List ℕ) → (get_or s 0 0 ≡ k → ⊥) → starts_with (k ∷ key) s ≡ false
unfolding starts_with
starts_first k key [] h = refl
starts_first k key (b ∷ s) h = rw (ne_eqb b k h)

pub number_apart : (n k : ℕ) (key rest : List ℕ) → k ≤ 47 → starts_with (k ∷ key) (print_number n ++ rest) ≡ false
unfolding print_number
number_apart n k key rest h = starts_first k key (decimal 20 n ++ rest) (λ e. omega (arith, first_digit 19 n rest))
