-- The text of rows in order is the normal text of the tables that they hold (`normal_tables`), of an accepted table text too
-- (`accepted_tables`), whose rows are of the switches 0 to 15 (`accepted_beyond`). Assumes nothing.
use Rattle.std.specs.Prelude.{Ok}
use Prim.Native.Nat.{ℕ, ◌≤◌}
use mathlib.Core.List.{List, [], ◌++◌, map, map-append, map-map}
use mathlib.Core.Path.{◌≡◌, refl, ◌∙◌, ap, fun_ext}
use Rattle.basics.specs.Searches.{gather}
use Rattle.basics.proofs.Gathered.{gather_through}
use Rattle.text_lines.specs.Lines.{unlines}
use Rattle.text_lines.proofs.Lines.{unlines_append}
use Rattle.rows.specs.Rows.{row, SortedRows, table_of, tables_of}
use Rattle.rows.proofs.Gathered.{table_beyond, rows_gathered}
use Rattle.tables_text.specs.TableText.{print_row, read_tables}
use Rattle.tables_text.proofs.Accepted.{accepted_sorted, accepted_range}
use Rattle.tables_normal.specs.Types.{Row}
use Rattle.tables_normal.specs.Normal.{normal_text, tables_text}

normal_append : (rs qs : List Row) → normal_text (rs ++ qs) ≡ normal_text rs ++ normal_text qs
unfolding normal_text
normal_append rs qs = ap unlines (map-append print_row rs qs) ∙ unlines_append (map print_row rs) (map print_row qs)

-- rows in order of the switches 0 to 15
pub normal_tables : (rs : List Row) → SortedRows rs → ((w : ℕ) → 16 ≤ w → table_of w rs ≡ []) → normal_text rs ≡ tables_text (tables_of rs)
unfolding normal_text tables_text unlines
normal_tables rs s none =
    ap normal_text (rows_gathered 16 rs s none) ∙ gather_through normal_text refl normal_append (λ w. map (row w) (table_of w rs)) 16
    ∙ ap (λ (f : ℕ → List ℕ). gather f 16) (fun_ext (λ w. ap unlines (map-map print_row (row w) (table_of w rs))))

module _ (s : List ℕ) (rs : List Row) (e : read_tables s ≡ Ok rs) where
  pub accepted_beyond : (w : ℕ) → 16 ≤ w → table_of w rs ≡ []
  accepted_beyond = table_beyond 16 rs (λ r m. (accepted_range s rs e r m).switch)

  pub accepted_tables : normal_text rs ≡ tables_text (tables_of rs)
  accepted_tables = normal_tables rs (accepted_sorted s rs e) accepted_beyond
