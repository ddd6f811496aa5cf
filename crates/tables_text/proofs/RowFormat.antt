-- The text of a line: exactly the texts of rows are read, each as its row, and no other row has that text (`row_unique`).
use Prim.Native.Nat.{ℕ}
use mathlib.Core.Bool.{true}
use mathlib.Core.List.{List, ◌∷◌, ◌++◌}
use mathlib.Core.Logic.{◌↔◌}
use Rattle.std.specs.Prelude.{Option, None, Some}
use Rattle.std.proofs.lemmas.Option.{same_Some}
use mathlib.Core.Path.{◌≡◌, refl, ◌∙◌, ap}
use native.Mathlib.Omega.{arith}
use borrow.Author.Tests.{eq-eqb, eqb-true}
use lib.Dec.{eqb}
use lib.ListN.{length, drop}
use Rattle.basics.specs.Text.{bytes}
use Rattle.text_numbers.proofs.Readers.{nothing, on_cond}
use Rattle.text_numbers.proofs.Numbers.{number_format}
use Rattle.text_numbers.proofs.Format.{Format, lf_ends, keyed_format, along, both_format, whole, unique_before}
use Rattle.text_fields.proofs.EntryFormats.{entry_follows, entry_format}
use Rattle.text_fields.proofs.Ranges.{entry_range}
use Rattle.text_fields.specs.Written.{clear_entry}
use Rattle.tables_text.specs.Types.{Row}
use Rattle.tables_text.specs.TableText.{print_row, row_reader, whole_row, read_row, RowWritten, RowInRange}

reader_format : Format RowWritten print_row row_reader
unfolding print_row row_reader
reader_format =
    along (λ (r : Row). (r.switch, r.entry)) _
    (λ r o. ((omega arith, o.entry), refl)) (λ f o. (record { switch = omega arith; entry = o.1 }, refl))
    (both_format entry_follows (keyed_format (bytes "sw=") (number_format 15 (omega arith))) entry_format)

whole_only : (n : ℕ) (r : Row) (o : Option (Row × ℕ)) → whole_row n o ≡ Some r → o ≡ Some (r, n)
whole_only n r None e = nothing e
whole_only n r (Some p) e =
    on_cond (eqb p.1 n)
    (λ t q. ap Some (λ i. (same_Some p.0 r q i, eqb-true p.1 n t i)))
    (λ t q. nothing q) e

whole_some : (n : ℕ) (r : Row) (o : Option (Row × ℕ)) → o ≡ Some (r, n) → whole_row n o ≡ Some r
whole_some n r o e = ap (whole_row n) e ∙ rw (eq-eqb n n refl)

-- a line reads as a row just where it is that row's text, with each value in its range
pub row_format : (l : List ℕ) (r : Row) → (read_row l ≡ Some r) ↔ (RowWritten r × (l ≡ print_row r))
unfolding read_row
row_format l r = (
  λ e. (whole reader_format l r).0 (whole_only (length l) r (row_reader l 0) e),
  λ w. whole_some (length l) r (row_reader l 0) ((whole reader_format l r).1 w),
)

-- a row in range is what a line can say, and has no address bit past its prefix
pub row_range : (r : Row) → (RowWritten r × (clear_entry r.entry ≡ true)) ↔ RowInRange r
row_range r = (
  λ (w, c). record { switch = w.switch; entry = (entry_range r.entry).0 (w.entry, c) },
  λ i. let (w, c) = (entry_range r.entry).1 i.entry in (record { switch = i.switch; entry = w }, c),
)

-- a line and its LF, with whatever behind: one row's
pub row_unique : (r q : Row) → RowInRange r → RowInRange q → (u v : List ℕ) → print_row r ++ (10 ∷ u) ≡ print_row q ++ (10 ∷ v) → (r ≡ q) × (u ≡ v)
row_unique r q h k u v e =
    let (one, rest) = unique_before reader_format r q ((row_range r).1 h).0 ((row_range q).1 k).0 (10 ∷ u) (10 ∷ v) (lf_ends u) (lf_ends v) e in
    (one, ap (drop 1) rest)
