-- Readers: what stands in a text from a place on.
use Rattle.std.specs.Prelude.{ℕ, ◌+◌, Bool, true, false, cond, List, [], ◌∷◌, length, drop, eqb, Option, None, Some}

-- from a text and a place: nothing, or a value and the place after it
abbrev pub Reader : Type 0 → Type 0
Reader A = List ℕ → ℕ → Option (A × ℕ)

-- whether a text begins with a key
unfoldable pub starts_with : List ℕ → List ℕ → Bool
starts_with [] s = true
starts_with (k ∷ ks) [] = false
starts_with (k ∷ ks) (b ∷ s) = cond (eqb b k) (starts_with ks s) false

module _ {A B : Type 0} where
  -- what is made of a value that was read and of the place after it
  abbrev pub on_read : Option (A × ℕ) → (A → ℕ → Option (B × ℕ)) → Option (B × ℕ)
  on_read None f = None
  on_read (Some r) f = f r.0 r.1

  -- a value, and then what that value asks for
  unfoldable pub and_then : Reader A → (A → Reader B) → Reader B
  and_then read next s at = on_read (read s at) (λ a n. next a s n)

  -- the same text, as another value
  unfoldable pub mapped : (A → B) → Reader A → Reader B
  mapped f read s at = on_read (read s at) (λ a n. Some (f a, n))

-- a key, and then a value
unfoldable pub keyed : {A : Type 0} → List ℕ → Reader A → Reader A
keyed key read s at = cond (starts_with key (drop at s)) (read s (at + length key)) None

-- a word that stands for one value; where it does not stand, another reader
unfoldable pub word_or : {A : Type 0} → List ℕ → A → Reader A → Reader A
word_or word a other s at = cond (starts_with word (drop at s)) (Some (a, at + length word)) (other s at)

-- two values in a row
unfoldable pub both : {A B : Type 0} → Reader A → Reader B → Reader (A × B)
both first second = and_then first (λ a. mapped (λ b. (a, b)) second)
