-- What is answered and left in the buffer for rows, by the paths through the code. Assumes nothing.
use Rattle.std.specs.Prelude.{Ok, Err}
use Prim.Native.Nat.{ℕ, ◌*◌, ◌≤◌, ◌<◌}
use mathlib.Core.List.{List, ◌++◌}
use mathlib.Core.Path.{◌≡◌, refl, sym, ◌∙◌, ap}
use native.Mathlib.Omega.{arith}
use borrow.Author.Tests.{lt-ltb, le-ltb}
use lib.ListN.{length, drop}
use Rattle.text_numbers.specs.Inner.{Put}
use Rattle.text_numbers.proofs.Writing.{put_whole}
use Rattle.refusals.specs.Checks.{Checked, written}
use Rattle.tables_text.specs.TableText.{read_tables}
use Rattle.tables_text.proofs.Accepted.{accepted_range}
use Rattle.tables_normal.specs.Types.{Refusal, Row}
use Rattle.tables_normal.specs.Normal.{normal_text, normal_answer}
use Rattle.tables_normal.specs.Inner.{fitting_text, RowsInRange}
use Rattle.tables_normal.proofs.Writing.{normal_most}

-- an answer and the buffer after it are those of a text, or of a refusal
abbrev Left : Checked (List ℕ) → Checked ℕ → List ℕ → List ℕ → Type 0
Left x r old new = (r ≡ normal_answer x) × (new ≡ written x old)

left_as : (old : List ℕ) {x y : Checked (List ℕ)} {r : Checked ℕ} {new : List ℕ} → x ≡ y → Left x r old new → Left y r old new
left_as old e l = (l.0 ∙ ap normal_answer e, l.1 ∙ ap (λ z. written z old) e)

-- ---- 32, or the text of the rows
module _ (rs : List Row) (out : List ℕ) {m : ℕ} (needed : m ≡ length (normal_text rs)) where
  pub put_short : length out < m → Left (fitting_text (length out) rs) (Err (Refusal.TablesShort m)) out out
  put_short h =
      let short : Err (Refusal.TablesShort m) ≡ fitting_text (length out) rs = rw needed (sym (rw (lt-ltb (length out) (length (normal_text rs)) (omega arith)))) in
      left_as out short (refl, refl)

  pub put_fits : m ≤ length out → (n : ℕ) (ys : List ℕ) → Put (normal_text rs) 0 out n ys → Left (fitting_text (length out) rs) (Ok n) out ys
  put_fits h n ys p =
      let l : n ≡ length (normal_text rs) = omega (arith, p.after) in
      let fits : Ok (normal_text rs) ≡ fitting_text (length out) rs = sym (rw (le-ltb (length out) (length (normal_text rs)) (omega arith))) in
      left_as out fits (ap Ok l, put_whole p (omega arith) ∙ ap (λ (i : ℕ). normal_text rs ++ drop i out) l)

-- with 115 bytes for each of the rows, all in range, the text fits: it need not be counted
pub put_uncounted : (rs : List Row) (out : List ℕ) → RowsInRange rs → 115 * length rs ≤ length out → (n : ℕ) (ys : List ℕ) → Put (normal_text rs) 0 out n ys
    → Left (fitting_text (length out) rs) (Ok n) out ys
put_uncounted rs out h room = put_fits rs out refl (omega (arith, normal_most rs h))

-- ---- the rows of an accepted text are in range
pub rows_accepted : (s : List ℕ) (rs : List Row) → Ok rs ≡ read_tables s → RowsInRange rs
rows_accepted s rs e = accepted_range s rs (sym e)
