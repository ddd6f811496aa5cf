-- Checks one after the other: what a sequence says, by what its first check says. Assumes nothing.
use mathlib.Core.Path.{◌≡◌, refl, ap, ◌∙◌}
use Rattle.std.specs.Prelude.{Option, None, Some, Ok, Err, IsErrAnd}
use Rattle.std.proofs.lemmas.Result.{err_from_is_err_and}
use mathlib.Core.List.{List}
use Prim.Native.Nat.{ℕ, ◌<◌, ◌≤◌}
use lib.ListN.{length}
use borrow.Author.Tests.{lt-ltb, le-ltb}
use Rattle.text_lines.specs.declared.limits.Limit.{Limit}
use Rattle.refusals.specs.Types.{Refusal}
use Rattle.refusals.specs.Checks.{Checked, ◌▹◌, refuse_at, refuse_limit, refuse_short}

-- a refusal is no value
pub not_handed : {A P : Type 0} {r : Refusal} {a : A} → ◌≡◌ {A = Checked A} (Err r) (Ok a) → P
not_handed e = absurd cc

pub not_refused : {A P : Type 0} {r : Refusal} {a : A} → ◌≡◌ {A = Checked A} (Ok a) (Err r) → P
not_refused e = absurd cc

pub same_refusal : {A : Type 0} {q r : Refusal} → ◌≡◌ {A = Checked A} (Err q) (Err r) → q ≡ r
same_refusal e = cc

pub same_value : {A : Type 0} {a b : A} → ◌≡◌ {A = Checked A} (Ok a) (Ok b) → a ≡ b
same_value e = cc

-- what a `?` hands back
pub handed_back : {A : Type 0} {x : Checked A} {r : Refusal} → IsErrAnd x (λ q. q ≡ r) → x ≡ Err r
handed_back {x = x} h = let (q, e, f) = err_from_is_err_and x h in e ∙ ap Err f

module _ {A B : Type 0} where
  -- a sequence hands a value on: its first check did
  pub handed_on : (x : Checked A) (next : A → Checked B) {b : B} → (x ▹ next) ≡ Ok b → (a : A) × (x ≡ Ok a) × (next a ≡ Ok b)
  handed_on (Err r) next e = not_handed e
  handed_on (Ok a) next e = (a, refl, e)

  -- a sequence refuses: its first check does, or hands a value on to what does
  pub refused_by : {G : Type 0} (x : Checked A) (next : A → Checked B) {r : Refusal} → (x ▹ next) ≡ Err r
      → (x ≡ Err r → G) → ((a : A) → x ≡ Ok a → next a ≡ Err r → G) → G
  refused_by (Err q) next e f g = f (rw (same_refusal e))
  refused_by (Ok a) next e f g = g a refl e

-- a search that finds nothing, where its check hands on
pub nothing_found : (x : Option ℕ) (r : ℕ → Refusal) {a : Unit {0}} → refuse_at x r ≡ Ok a → x ≡ None
nothing_found None r e = refl
nothing_found (Some j) r e = not_handed e

-- what a check that refuses found
pub found_at : (x : Option ℕ) (r : ℕ → Refusal) {q : Refusal} → refuse_at x r ≡ Err q → (j : ℕ) × (x ≡ Some j) × (q ≡ r j)
found_at None r e = not_refused e
found_at (Some j) r e = (j, refl, cc)

-- a text within its limits
pub limit_kept : (l : Option Limit) (long unended many : Refusal) {a : Unit {0}} → refuse_limit l long unended many ≡ Ok a → l ≡ None
limit_kept (Some Limit.TooLong) long unended many e = not_handed e
limit_kept (Some Limit.Unended) long unended many e = not_handed e
limit_kept (Some Limit.TooManyLines) long unended many e = not_handed e
limit_kept None long unended many e = refl

-- the room for a text, by the code's test
module _ (room : ℕ) (text : List ℕ) (r : ℕ → Refusal) where
  pub short_refused : room < length text → refuse_short room text r ≡ Err (r (length text))
  short_refused h = rw (lt-ltb room (length text) h)

  pub short_passed : length text ≤ room → refuse_short room text r ≡ Ok tt
  short_passed h = rw (le-ltb room (length text) h)
