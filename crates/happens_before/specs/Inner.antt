-- Inner: happens-before as it is held, 256 rows of four 64-bit words, each row the set of the events before one.
use Rattle.std.specs.Prelude.{◌≡◌, Bool, not, ◌&&◌, ◌||◌, cond, List, [], ◌∷◌, ℕ, ◌+◌, ltb, get_or}
use Rattle.basics.specs.Searches.{any_below}
use Rattle.bit_sets.specs.Inner.{word_bit, member}
use Rattle.happens_before.specs.Types.{Side, Event}
use Rattle.happens_before.specs.Causality.{before}

-- the word x lacks a bit of y
unfoldable pub lacks_bit : ℕ → ℕ → Bool
lacks_bit x y = any_below (λ k. word_bit y k && not (word_bit x k)) 64

-- the empty set
abbrev pub no_members : List ℕ
no_members = 0 ∷ 0 ∷ 0 ∷ 0 ∷ []

-- event i is in the row of event j
unfoldable pub bit : List (List ℕ) → ℕ → ℕ → Bool
bit rows i j = member (get_or rows j []) i

-- the rows hold happens-before
abbrev pub HappensBefore : ℕ → List Event → List (List ℕ) → Type 0
HappensBefore delay es rows = (i j : ℕ) → bit rows i j ≡ before delay es i j

-- where the search for the direct predecessors of event j begins, by the side of j, whether an earlier event is a barrier, and the
-- earliest `to` of the earlier events that switches handle
unfoldable pub search_from : ℕ → Side → Bool → ℕ → ℕ → ℕ
search_from delay later barred earliest j = cond (later.takes || (barred || later.barrier) || ltb (earliest + delay) later.from) 0 j
