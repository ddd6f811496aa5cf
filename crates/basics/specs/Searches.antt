-- Searches through the numbers below a bound and through lists.
use Rattle.std.specs.Prelude.{Bool, true, false, ◌&&◌, ◌||◌, cond, List, [], ◌∷◌, ◌++◌, ℕ, zero, suc, ◌+◌, ◌<◌, eqb, Option, None, Some}

-- the number stands in the list
abbrev pub has : ℕ → List ℕ → Bool
has i [] = false
has i (x ∷ o) = eqb i x || has i o

-- some element of the list passes the test
abbrev pub any_in : {A : Type 0} → (A → Bool) → List A → Bool
any_in p [] = false
any_in p (x ∷ xs) = p x || any_in p xs

-- some number stands in both
unfoldable pub shares : List ℕ → List ℕ → Bool
shares ss ts = any_in (λ t. has t ts) ss

-- some number below n passes the test
abbrev pub any_below : (ℕ → Bool) → ℕ → Bool
any_below p zero = false
any_below p (suc n) = any_below p n || p n

-- every number below n passes the test
abbrev pub all_below : (ℕ → Bool) → ℕ → Bool
all_below p zero = true
all_below p (suc n) = all_below p n && p n

-- what was found, or else n where the test says yes of it
abbrev pub or_else : Option ℕ → Bool → ℕ → Option ℕ
or_else (Some j) test n = Some j
or_else None test n = cond test (Some n) None

-- the lowest number below n that passes the test
unfoldable pub lowest : (ℕ → Bool) → ℕ → Option ℕ
lowest p zero = None
lowest p (suc n) = or_else (lowest p n) (p n) n

-- one element or none
abbrev pub only : {A : Type 0} → Bool → A → List A
only true x = x ∷ []
only false x = []

-- f 0 ++ f 1 ++ .. ++ f (n - 1)
abbrev pub gather : {A : Type 0} → (ℕ → List A) → ℕ → List A
gather f zero = []
gather f (suc n) = gather f n ++ f n

-- f 0 + f 1 + .. + f (n - 1)
abbrev pub sum_below : (ℕ → ℕ) → ℕ → ℕ
sum_below f zero = 0
sum_below f (suc n) = sum_below f n + f n

abbrev pub size : Bool → ℕ
size true = 1
size false = 0

-- how many numbers below n pass the test
abbrev pub count_below : (ℕ → Bool) → ℕ → ℕ
count_below p zero = 0
count_below p (suc n) = count_below p n + size (p n)

-- the lowest number below n of which something holds
pub record Lowest (P : ℕ → Type 0) (n j : ℕ) : Type 0 where
  pub inside : j < n
  pub here : P j
  pub none_lower : (k : ℕ) → k < j → P k → ⊥
