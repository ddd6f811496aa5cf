-- A key and its number, with a text behind that ends the number: equal texts have equal numbers, and equal texts behind
-- (`key_number_told`). Assumes nothing.
use Prim.Native.Nat.{ℕ, ◌-◌, ◌^◌, ◌<◌}
use native.Mathlib.Omega.{arith}
use mathlib.Core.Path.{◌≡◌, refl, sym, ◌∙◌}
use mathlib.Core.List.{List, ◌∷◌, ◌++◌, append_assoc, append_cancel_left}
use Rattle.text_numbers.specs.Print.{print_number}
use Rattle.text_numbers.specs.Number.{is_digit, read_number}
use Rattle.text_numbers.specs.Format.{Ends}
use Rattle.text_numbers.proofs.Readers.{one_reading}
use Rattle.text_numbers.proofs.Numbers.{number_format}
use Rattle.refusals_text.specs.Report.{key_number}

-- a LF and a space end a number
pub lf_ends : (w : List ℕ) → Ends (10 ∷ w)
unfolding is_digit
lf_ends w = record { digit = refl; comma = refl }

pub space_ends : (w : List ℕ) → Ends (32 ∷ w)
unfolding is_digit
space_ends w = record { digit = refl; comma = refl }

pub key_number_told : (key : List ℕ) (a b : ℕ) (u v : List ℕ) → a < 10 ^ 20 → b < 10 ^ 20 → Ends u → Ends v → key_number key a ++ u ≡ key_number key b ++ v → (a ≡ b) × (u ≡ v)
unfolding key_number
key_number_told key a b u v l m p q e =
    let f = number_format (10 ^ 20 - 1) (omega arith) in
    let s = print_number a ++ u in
    let h : s ≡ print_number b ++ v = append_cancel_left key s (print_number b ++ v) (sym (append_assoc key (print_number a) u) ∙ e ∙ append_assoc key (print_number b) v) in
    one_reading (read_number (10 ^ 20 - 1)) s (print_number a) (print_number b) u v (f.reads a (omega arith) s 0 u p refl) (f.reads b (omega arith) s 0 v q h) refl h
