-- What is printed tells the results (`results_told`), and printed in parts it is the same (`lines_in_parts`). Assumes nothing.
use Prim.Native.Nat.{ℕ, suc, ◌+◌, ◌<◌}
use native.Mathlib.Nat.{add-zero}
use native.Mathlib.Omega.{arith}
use mathlib.Core.Path.{◌≡◌, refl, sym, ap, ap₂, ◌∙◌}
use mathlib.Core.List.{List, [], ◌∷◌, ◌++◌, append_assoc, append_cancel_left, tail-eq_of_cons-eq}
use lib.ListN.{length, get_or}
use Rattle.basics.specs.Text.{bytes}
use Rattle.refusals_text.specs.Report.{key_number}
use Rattle.refusals_text.proofs.Told.{lf_ends, key_number_told}
use Rattle.trials_report.specs.Report.{result_line, result_lines}

line_is : (k a : ℕ) (v : List ℕ) → result_line k a ++ v ≡ key_number (bytes "order=") k ++ (key_number (bytes " result=") a ++ 10 ∷ v)
unfolding result_line
line_is k a v = simp append_assoc

no_line : (k a : ℕ) (v : List ℕ) → length (result_line k a ++ v) ≡ 0 → ⊥
unfolding result_line key_number
no_line k a v e = omega arith

same_line : (k a b : ℕ) (v w : List ℕ) → a < 256 → b < 256 → result_line k a ++ v ≡ result_line k b ++ w → (a ≡ b) × (v ≡ w)
same_line k a b v w l m e =
    let key = bytes " result=" in
    let g = append_cancel_left (key_number (bytes "order=") k) (key_number key a ++ 10 ∷ v) (key_number key b ++ 10 ∷ w) (sym (line_is k a v) ∙ e ∙ line_is k b w) in
    let (x, y) = key_number_told key a b (10 ∷ v) (10 ∷ w) (omega arith) (omega arith) (lf_ends v) (lf_ends w) g in
    (x, tail-eq_of_cons-eq y)

-- one text is one list of results
pub results_told : (k : ℕ) (xs ys : List ℕ) → ((i : ℕ) → get_or xs i 0 < 256) → ((i : ℕ) → get_or ys i 0 < 256) → result_lines k xs ≡ result_lines k ys → xs ≡ ys
unfolding result_lines
results_told k [] [] l m e = refl
results_told k [] (b ∷ ys) l m e = absurd (no_line k b (result_lines (k + 1) ys) (ap length (sym e)))
results_told k (a ∷ xs) [] l m e = absurd (no_line k a (result_lines (k + 1) xs) (ap length e))
results_told k (a ∷ xs) (b ∷ ys) l m e =
    let (p, q) = same_line k a b (result_lines (k + 1) xs) (result_lines (k + 1) ys) (l 0) (m 0) e in
    ap₂ (λ (x : ℕ) (w : List ℕ). x ∷ w) p (results_told (k + 1) xs ys (λ i. l (suc i)) (λ i. m (suc i)) q)

-- the lines of two parts, the second numbered on, are those of the whole
pub lines_in_parts : (k : ℕ) (xs ys : List ℕ) → result_lines k (xs ++ ys) ≡ result_lines k xs ++ result_lines (k + length xs) ys
unfolding result_lines
lines_in_parts k [] ys = rw add-zero refl
lines_in_parts k (b ∷ xs) ys =
    let e : k + 1 + length xs ≡ k + suc (length xs) = omega arith in
    ap (λ (w : List ℕ). result_line k b ++ w) (lines_in_parts (k + 1) xs ys)
    ∙ ap (λ (n : ℕ). result_line k b ++ (result_lines (k + 1) xs ++ result_lines n ys)) e
    ∙ sym (append_assoc (result_line k b) (result_lines (k + 1) xs) (result_lines (k + suc (length xs)) ys))
