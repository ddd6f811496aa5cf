-- Document 01, "Refusal table", the order of checks: checks one after the other, of which the first refusal stands.
use Rattle.std.specs.Prelude.{Bool, true, false, List, ℕ, ltb, length, Option, None, Some, Ok, Err, Result}
use Rattle.basics.specs.Text.{starting_with}
use Rattle.text_lines.specs.declared.limits.Limit.{Limit}
use Rattle.refusals.specs.Types.{Refusal}

-- what a check hands on: a refusal, or a value
abbrev pub Checked : Type 0 → Type 0
Checked A = Result A Refusal

-- and then: where the first check refuses, nothing else is looked at
infixr 20 ◌▹◌
abbrev pub ◌▹◌ : {A B : Type 0} → Checked A → (A → Checked B) → Checked B
Err r ▹ next = Err r
Ok a ▹ next = next a

-- refused where the test says yes
abbrev pub refuse_if : Bool → Refusal → Checked (Unit {0})
refuse_if true r = Err r
refuse_if false r = Ok tt

-- refused at the place that was found
abbrev pub refuse_at : Option ℕ → (ℕ → Refusal) → Checked (Unit {0})
refuse_at (Some place) r = Err (r place)
refuse_at None r = Ok tt

-- 1, 2, 3 or 11, 12, 13: the first limit that a text exceeds
abbrev pub refuse_limit : Option Limit → Refusal → Refusal → Refusal → Checked (Unit {0})
refuse_limit (Some Limit.TooLong) long unended many = Err long
refuse_limit (Some Limit.Unended) long unended many = Err unended
refuse_limit (Some Limit.TooManyLines) long unended many = Err many
refuse_limit None long unended many = Ok tt

-- refused where a text is longer than the room that is lent: the bytes needed
abbrev pub refuse_short : ℕ → List ℕ → (ℕ → Refusal) → Checked (Unit {0})
refuse_short room text r = refuse_if (ltb room (length text)) (r (length text))

-- a buffer after a call that writes a text: the text from its start and the rest unchanged; after a refusal all as it was
abbrev pub written : Checked (List ℕ) → List ℕ → List ℕ
written (Err r) old = old
written (Ok text) old = starting_with text old

-- refused where there is no value
abbrev pub refuse_none : {A : Type 0} → Option A → Refusal → Checked A
refuse_none None r = Err r
refuse_none (Some a) r = Ok a
