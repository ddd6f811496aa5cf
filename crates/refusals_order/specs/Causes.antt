-- Document 01, "Refusal table", in words: when a refusal applies, and which of those that apply is told.
use Rattle.std.specs.Prelude.{List, [], ◌∷◌, ◌++◌, ◌⊎◌, ◌≡◌, ℕ, ◌+◌, ◌<◌, Some}
use Rattle.std.specs.List.{slice_get}
use Rattle.basics.specs.Searches.{Lowest}
use Rattle.refusals_order.specs.Types.{Refusal}

-- a cause of a refusal: the refusal, with its place, applies
abbrev pub Cause : Type 1
Cause = Refusal → Type 0

-- the order of checks: the refusal is a cause of the first check that has one
abbrev pub FirstOf : List Cause → Refusal → Type 0
FirstOf [] r = ⊥
FirstOf (c ∷ cs) r = c r ⊎ (((q : Refusal) → c q → ⊥) × FirstOf cs r)

-- none of the checks has a cause
abbrev pub NoneOf : List Cause → Type 0
NoneOf [] = Unit {0}
NoneOf (c ∷ cs) = ((q : Refusal) → c q → ⊥) × NoneOf cs

-- ---- the kinds of causes
-- this refusal, where something holds
abbrev pub When : Type 0 → Refusal → Cause
When P refusal r = P × (r ≡ refusal)

-- at the lowest place below n of which something holds
abbrev pub AtLowest : (ℕ → Type 0) → ℕ → (ℕ → Refusal) → Cause
AtLowest P n refusal r = (j : ℕ) × Lowest P n j × (r ≡ refusal j)

-- a cause that speaks of what the input says
abbrev pub Of : {A : Type 0} → (A → Type 0) → (A → Cause) → Cause
Of Says c r = (a : _) × Says a × c a r

-- the lines from line k on, on each its checks
abbrev pub line_by_line : (ℕ → List ℕ → List Cause) → ℕ → List (List ℕ) → List Cause
line_by_line causes k [] = []
line_by_line causes k (l ∷ ls) = causes k l ++ line_by_line causes (k + 1) ls

-- the lowest line that fails a check, and the refusal of the first check that it fails
pub record LowestLine (causes : ℕ → List ℕ → List Cause) (ls : List (List ℕ)) (r : Refusal) : Type 0 where
  pub line : ℕ
  pub text : List ℕ
  pub there : slice_get ls line ≡ Some text
  pub first : FirstOf (causes line text) r
  pub none_lower : (j : ℕ) (m : List ℕ) → j < line → slice_get ls j ≡ Some m → NoneOf (causes j m)
