-- Laws of tests and of readers.
use Prim.Native.Nat.{ℕ, ◌+◌}
use mathlib.Core.Bool.{Bool, true, false, cond}
use mathlib.Core.List.{List, ◌++◌}
use Rattle.std.specs.Prelude.{Option, None, Some}
use Rattle.std.proofs.lemmas.Option.{same_Some, none-some}
use mathlib.Core.Path.{◌≡◌, refl, sym, ◌∙◌, ap}
use native.Mathlib.Nat.{add-zero}
use lib.ListN.{length, get_or, drop}
use lib.Seq.{drop-append_seam, drop-drop, get_or-drop}
use Rattle.text_numbers.specs.Reading.{Reader, on_read}

-- nothing is no value
pub nothing : {A P : Type 0} {a : A} → None ≡ Some a → P
nothing {a = a} e = absurd (none-some a e)

-- two readings of one thing have one value and one place
module _ {A : Type 0} {x y : A × ℕ} (e : Some x ≡ Some y) where
  pub same_value : x.0 ≡ y.0
  same_value = ap (λ (p : A × ℕ). p.0) (same_Some x y e)

  pub same_place : x.1 ≡ y.1
  same_place = ap (λ (p : A × ℕ). p.1) (same_Some x y e)

-- a result came by one way of a test
pub on_cond : {A P : Type 0} (t : Bool) {a b r : A} → (t ≡ true → a ≡ r → P) → (t ≡ false → b ≡ r → P) → cond t a b ≡ r → P
on_cond true f g e = f refl e
on_cond false f g e = g refl e

-- a value that was read by way of another came by that other and the place after it
pub on_read_lem : {A B P : Type 0} (r : Option (A × ℕ)) {f : A → ℕ → Option (B × ℕ)} {x : B × ℕ} → ((a : A) (n : ℕ) → r ≡ Some (a, n) → f a n ≡ Some x → P)
    → on_read r f ≡ Some x → P
on_read_lem None g e = nothing e
on_read_lem (Some r) g e = g r.0 r.1 refl e

-- what stands behind a text that stands at a place
pub behind : (w rest s : List ℕ) (at : ℕ) → drop at s ≡ w ++ rest → drop (at + length w) s ≡ rest
behind w rest s at h = rw (← drop-drop, h) (drop-append_seam w rest)

-- one text with the texts of two values in front, read as each: they are one value, and what stands behind is the same
pub one_reading : {A : Type 0} (read : Reader A) (s : List ℕ) {a b : A} (w x u v : List ℕ) → read s 0 ≡ Some (a, 0 + length w) → read s 0 ≡ Some (b, 0 + length x)
    → s ≡ w ++ u → s ≡ x ++ v → (a ≡ b) × (u ≡ v)
one_reading read s w x u v e f p q =
    let z = sym e ∙ f in
    (same_value z, sym (behind w u s 0 p) ∙ ap (λ (n : ℕ). drop n s) (same_place z) ∙ behind x v s 0 q)

-- the byte at a place is the first from there on
pub here : (s : List ℕ) (at : ℕ) → get_or s at 0 ≡ get_or (drop at s) 0 0
here s at = sym (get_or-drop at s 0 0 ∙ rw add-zero)

-- what a reader's answer says, where the answer is known
pub seen : {R X : Type 0} (view : R → X) {r y : R} {x : X} → view r ≡ x → r ≡ y → x ≡ view y
seen view p q = sym p ∙ ap view q

-- what is made in two steps is made in one
pub twice : {A B C : Type 0} (f : B → C) (g : A → B) (h : A → C) → ((a : A) → f (g a) ≡ h a) → (r : Option (A × ℕ))
    → on_read r (λ a n. Some (h a, n)) ≡ on_read (on_read r (λ a n. Some (g a, n))) (λ b n. Some (f b, n))
twice f g h e None = refl
twice f g h e (Some r) = ap (λ c. Some (c, r.1)) (sym (e r.0))

-- what a test gave that a call made of a known value
pub tested : {A B : Type 0} (test : A → B) {a b : A} {r v : B} → a ≡ b → r ≡ test a → r ≡ v → test b ≡ v
tested test p q e = ap test (sym p) ∙ sym q ∙ e
