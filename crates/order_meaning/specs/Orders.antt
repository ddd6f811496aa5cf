-- Document 01, "What an order of events does", for any kind of state, step and answer. Events are numbers, and an order is the list
-- of them, as the bytes that a caller lends.
use Rattle.std.specs.Prelude.{◌≡◌, Bool, true, false, ◌&&◌, ◌||◌, cond, List, [], ◌∷◌, ℕ, zero, suc, ◌<◌, eqb, length, Option, None, Some}
use Rattle.basics.specs.Searches.{has}

module _ {S : Type 0} (step : ℕ → S → S) where
  -- the state after the events of an order, taken from the front: each meets what the one before it left
  abbrev pub run : List ℕ → S → S
  run [] s = s
  run (i ∷ o) s = run o (step i s)

  -- the answer of event i in an order, kept under its number
  abbrev pub answer_in : {A : Type 0} → (ℕ → S → A) → List ℕ → S → ℕ → Option A
  answer_in answer [] s i = None
  answer_in answer (j ∷ o) s i = cond (eqb i j) (Some (answer j s)) (answer_in answer o (step j s) i)

-- the recorded order of the n events from b on
abbrev pub from : ℕ → ℕ → List ℕ
from b zero = []
from b (suc n) = b ∷ from (suc b) n

-- event i stands before event j
abbrev pub stands : ℕ → ℕ → List ℕ → Bool
stands i j [] = false
stands i j (x ∷ o) = (eqb i x && has j o) || stands i j o

-- an order of the events 0 .. n-1: its length is n, and none is missing
pub record IsOrderOf (n : ℕ) (o : List ℕ) : Type 0 where
  pub size : length o ≡ n
  pub full : (i : ℕ) → i < n → has i o ≡ true

module _ {S : Type 0} {A : Type 0} (step : ℕ → S → S) (answer : ℕ → S → A) where
  -- two events may change places in every good state
  pub record Independent (Good : S → Type 0) (i j : ℕ) : Type 0 where
    pub states : (s : S) → Good s → step j (step i s) ≡ step i (step j s)
    pub first : (s : S) → Good s → answer i (step j s) ≡ answer i s
    pub second : (s : S) → Good s → answer j (step i s) ≡ answer j s

  -- two orders agree from a state: they leave the same state, and each event has the same answer
  pub record Agrees (o p : List ℕ) (s : S) : Type 0 where
    pub states : run step o s ≡ run step p s
    pub answers : (i : ℕ) → answer_in step answer o s i ≡ answer_in step answer p s i
