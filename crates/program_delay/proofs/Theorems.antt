-- Which texts give a delay, and which one.
use Prim.Native.Nat.{ℕ, ◌≤◌}
use mathlib.Core.List.{List}
use mathlib.Core.Logic.{◌↔◌}
use Rattle.std.specs.Prelude.{Option, None, Some}
use Rattle.std.proofs.lemmas.Option.{same_Some}
use mathlib.Core.Path.{◌≡◌, refl}
use native.Mathlib.Omega.{arith}
use lib.ListN.{length}
use lib.Dec.{eqb}
use borrow.Author.Tests.{eqb-true, eq-eqb}
use Rattle.text_numbers.specs.Number.{read_number}
use Rattle.text_numbers.specs.Print.{print_number}
use Rattle.text_numbers.proofs.Readers.{nothing, on_cond}
use Rattle.text_numbers.proofs.Numbers.{number_format}
use Rattle.text_numbers.proofs.Format.{whole}
use Rattle.program_delay.specs.Delays.{to_end, delay_of}

-- a number to the end of the text
all_read : (s : List ℕ) {v : ℕ} → read_number 4294967295 s 0 ≡ Some (v, length s) → delay_of s ≡ Some v
unfolding delay_of
all_read s e = rw (e, eq-eqb (length s) (length s) refl)

-- a value that was read to the end was read up to there
to_end_lem : (s : List ℕ) (r : Option (ℕ × ℕ)) (v : ℕ) → to_end s r ≡ Some v → r ≡ Some (v, length s)
to_end_lem s None v e = nothing e
to_end_lem s (Some r) v e =
    on_cond (eqb r.1 (length s)) (λ q p. rw (← same_Some r.0 v p, ← eqb-true r.1 (length s) q)) (λ q p. nothing p) e

-- a text gives the delay v just where it is the decimal text of v, at most 4294967295
pub delay_text : (s : List ℕ) (v : ℕ) → (delay_of s ≡ Some v) ↔ ((s ≡ print_number v) × (v ≤ 4294967295))
unfolding delay_of
delay_text s v =
    let text = whole (number_format 4294967295 (omega arith)) s v in
    (λ e. ((text.0 (to_end_lem s _ v e)).1, (text.0 (to_end_lem s _ v e)).0), λ h. all_read s (text.1 (h.1, h.0)))
