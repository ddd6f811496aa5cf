-- Inner: sets of numbers as they are held, in words of 64 bits.
use Rattle.std.specs.Prelude.{◌≡◌, Bool, true, false, List, Option, Some, None, IfSome, ℕ, ◌+◌, ◌*◌, ◌/◌, ◌%◌, ◌^◌, ◌≤◌, ◌<◌, eqb, get_or, length}

-- bit k of the word x is 1
unfoldable pub word_bit : ℕ → ℕ → Bool
word_bit x k = eqb (x / 2 ^ k % 2) 1

-- j is in the set: bit j % 64 of word j / 64
unfoldable pub member : List ℕ → ℕ → Bool
member words j = word_bit (get_or words (j / 64) 0) (j % 64)

-- r is the lowest number from a number on that passes, and below a number
pub record Lowest (p : ℕ → Bool) (from end r : ℕ) : Type 0 where
  pub after : from ≤ r
  pub inside : r < end
  pub here : p r ≡ true
  pub skipped : (k : ℕ) → from ≤ k → k < r → p k ≡ false

-- the lowest place from a place on where the word x has a 1, if there is one
abbrev pub NextBit : ℕ → ℕ → Option ℕ → Type 0
NextBit x from None = (k : ℕ) → from ≤ k → word_bit x k ≡ false
NextBit x from (Some r) = Lowest (word_bit x) from 64 r

-- the lowest member from a number on, if there is one
abbrev pub NextFrom : List ℕ → ℕ → Option ℕ → Type 0
NextFrom words from None = (k : ℕ) → from ≤ k → member words k ≡ false
NextFrom words from (Some r) = Lowest (member words) from (64 * length words) r

-- a step over the members of a set, from a number on: the lowest, and from where it then goes on
pub record NextMember (old : List ℕ) (from : ℕ) (new : List ℕ) (on : ℕ) (r : Option ℕ) : Type 0 where
  pub set : new ≡ old
  pub found : NextFrom old from r
  pub past : IfSome r (λ i. on ≡ i + 1)
