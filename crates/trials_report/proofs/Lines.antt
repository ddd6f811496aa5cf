-- The lines of results, put one behind another, and how long they are. Assumes nothing.
use Prim.Native.Nat.{ℕ, suc, ◌+◌, ◌^◌, ◌<◌, ◌≤◌}
use native.Mathlib.Omega.{arith}
use mathlib.Core.Path.{◌≡◌, sym, ap, ap₂, subst, ◌∙◌}
use mathlib.Core.List.{List, ◌++◌, append_assoc, append-nil}
use lib.ListN.{length, drop, get_or, length-append, drop_of_length-le}
use lib.Seq.{drop-cons}
use Rattle.text_numbers.specs.Inner.{Put}
use Rattle.text_numbers.proofs.Print.{print_short}
use Rattle.text_numbers.proofs.Writing.{put_then}
use Rattle.refusals_text.proofs.Laws.{key_number_length}
use Rattle.trials_report.specs.Report.{result_line, result_lines}

-- a line has at most 25 bytes
pub line_length_lem : (order result : ℕ) → order < 10 ^ 7 → result < 256 → length (result_line order result) ≤ 25
unfolding result_line
line_length_lem order result a b =
    simp (length-append, key_number_length) (omega (arith, print_short 6 order a, print_short 2 result (omega arith)))

-- the lines from a place on: its line, and the rest
next_line : (k : ℕ) (bs : List ℕ) (i : ℕ) → i < length bs → result_lines (k + i) (drop i bs) ≡ result_line (k + i) (get_or bs i 0) ++ result_lines (k + (i + 1)) (drop (i + 1) bs)
unfolding result_lines
next_line k bs i l =
    let e : suc i ≡ i + 1 = omega arith in
    let f : k + i + 1 ≡ k + (i + 1) = omega arith in
    ap (result_lines (k + i)) (drop-cons bs i 0 l)
    ∙ ap₂ (λ (n j : ℕ). result_line (k + i) (get_or bs i 0) ++ result_lines n (drop j bs)) f e

module _ (k : ℕ) (bs old : List ℕ) (i : ℕ) {w : List ℕ} {at : ℕ} {out : List ℕ} (p : Put w 0 old at out) (whole : w ++ result_lines (k + i) (drop i bs) ≡ result_lines k bs) where
  -- a turn of the loop over the results
  pub lines_turn : {r : ℕ} {now : List ℕ} → i < length bs → Put (result_line (k + i) (get_or bs i 0)) at out r now
      → Put (w ++ result_line (k + i) (get_or bs i 0)) 0 old r now × ((w ++ result_line (k + i) (get_or bs i 0)) ++ result_lines (k + (i + 1)) (drop (i + 1) bs) ≡ result_lines k bs)
  lines_turn l q = (
    put_then p q,
    append_assoc w (result_line (k + i) (get_or bs i 0)) (result_lines (k + (i + 1)) (drop (i + 1) bs)) ∙ ap (λ (r : List ℕ). w ++ r) (sym (next_line k bs i l)) ∙ whole,
  )

  pub lines_done : length bs ≤ i → Put (result_lines k bs) 0 old at out
  unfolding result_lines
  lines_done l =
      let e : w ≡ result_lines k bs = sym (append-nil w) ∙ ap (λ (r : List ℕ). w ++ result_lines (k + i) r) (sym (drop_of_length-le bs l)) ∙ whole in
      subst (λ (t : List ℕ). Put t 0 old at out) e p
