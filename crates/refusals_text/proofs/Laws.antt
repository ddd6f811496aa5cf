-- The texts of a refusal, put one behind another. Assumes nothing.
use Prim.Native.Nat.{ℕ, ◌+◌, ◌≤◌}
use native.Mathlib.Omega.{arith}
use mathlib.Core.Path.{◌≡◌}
use mathlib.Core.List.{List, ◌++◌}
use lib.ListN.{length, length-append}
use Rattle.basics.specs.Text.{bytes}
use Rattle.text_numbers.specs.Print.{print_number}
use Rattle.text_numbers.specs.Inner.{Put}
use Rattle.text_numbers.proofs.Writing.{print_length}
use Rattle.refusals.specs.Refusals.{returned, number_of, place_of, source_of, line_of}
use Rattle.refusals_text.specs.Types.{Refusal, Source, Returned}
use Rattle.refusals_text.specs.Report.{key_number, refusal_line, line_text, refused_text}

-- a refusal's line, by the numbers that the code has
pub refusal_put : (r : Refusal) (t : Returned) {m : ℕ} {old out : List ℕ} → t ≡ returned r
    → Put (key_number (bytes "refused=") t.number ++ key_number (bytes " place=") t.place ++ bytes "\n") 0 old m out
    → Put (refusal_line r) 0 old m out
unfolding refusal_line
refusal_put r t e h = rw e at h

-- an arm of the match on the text that a refusal's line stands in
pub refused_arm : (trace tables : List ℕ) (r : Refusal) (t : Returned) (line : List ℕ) {form : Source} {n : ℕ} {old out : List ℕ} → t ≡ returned r → t.source ≡ form
    → line ≡ line_of trace tables r → Put (refusal_line r ++ line_text form line) 0 old n out → Put (refused_text trace tables r) 0 old n out
unfolding refused_text
refused_arm trace tables r t line e f g h = rw (← f, g, e) at h

pub key_number_length : (key : List ℕ) (n : ℕ) → length (key_number key n) ≡ length key + length (print_number n)
unfolding key_number
key_number_length key n = length-append key (print_number n)

pub refusal_length : (r : Refusal) → length (refusal_line r) ≤ 56
unfolding refusal_line
refusal_length r = simp (length-append, key_number_length) (omega (arith, print_length (number_of r), print_length (place_of r)))

-- how long the text of a refusal is
pub refused_length : (trace tables : List ℕ) (r : Refusal) → length (refused_text trace tables r) ≡ length (refusal_line r) + length (line_text (source_of r) (line_of trace tables r))
unfolding refused_text
refused_length trace tables r = length-append (refusal_line r) (line_text (source_of r) (line_of trace tables r))
