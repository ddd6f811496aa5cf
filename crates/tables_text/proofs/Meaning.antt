-- Which table texts are accepted, and as which rows: exactly those that `IsTables` describes. Assumes nothing.
use Rattle.std.specs.Prelude.{Ok}
use Prim.Native.Nat.{ℕ, ◌+◌}
use mathlib.Core.Bool.{true, false, true≢false}
use mathlib.Core.List.{List, [], ◌∷◌, map}
use mathlib.Core.Logic.{◌↔◌}
use mathlib.Core.Path.{◌≡◌, refl, ap, ◌∙◌}
use native.Mathlib.Omega.{arith}
use lib.ListN.{length-map}
use Rattle.basics.proofs.Booleans.{split}
use Rattle.text_lines.specs.Lines.{lines}
use Rattle.rows_sort.specs.Sorting.{stands_earlier}
use Rattle.rows_sort.proofs.SortLaws.{sort_rows_lem, rows_sort, stands_iff}
use Rattle.tables_text.specs.Types.{Row}
use Rattle.tables_text.specs.TableText.{print_row, read_tables}
use Rattle.tables_text.specs.Meaning.{IsTables}
use Rattle.tables_text.proofs.RowFormat.{row_format}
use Rattle.tables_text.proofs.Lines.{ReadAs, same_length, in_range_lem, printed}
use Rattle.tables_text.proofs.Accepted.{Accepted, accepted, accepting}

-- the lines are the texts of their rows
texts : (k : ℕ) (ls : List (List ℕ)) (rs : List Row) → ReadAs k ls rs → ls ≡ map print_row rs
texts k [] [] h = refl
texts k [] (r ∷ rs) h = absurd h
texts k (l ∷ ls) [] h = absurd h
texts k (l ∷ ls) (r ∷ rs) h = ap {B = List (List ℕ)} (λ y. y ∷ ls) ((row_format l r).0 h.0.0).1 ∙ ap (λ y. print_row r ∷ y) (texts (k + 1) ls rs h.1)

tables_only : (s : List ℕ) (rs : List Row) → Accepted s rs → IsTables s rs
tables_only s rs a =
    let o = sort_rows_lem a.each rs a.order in
    let w = a.within in record {
      each = a.each;
      bytes = w.bytes;
      ended = w.ended;
      few = omega (arith, same_length 0 (lines s) a.each a.read, w.few);
      printed = texts 0 (lines s) a.each a.read;
      in_range = in_range_lem 0 (lines s) a.each a.read;
      once = λ i j x y l p q e f. let t = (stands_iff a.each j).1 (i, x, y, l, p, q, λ n. record { switch = e n; key = f n }) in
          let g = o.once j in let z : true ≡ false = cc in true≢false z;
      sorted = o.sorted;
      same = λ r. (o.forth r, o.back r);
    }

tables_reads : (s : List ℕ) (rs : List Row) → IsTables s rs → Accepted s rs
tables_reads s rs t = record {
  within = record {
    bytes = t.bytes;
    ended = t.ended;
    few = rw (t.printed, length-map) t.few;
  };
  each = t.each;
  read = rw t.printed (printed 0 t.each t.in_range);
  order = rows_sort t.each rs (record {
    sorted = t.sorted;
    forth = λ r m. (t.same r).0 m;
    back = λ r m. (t.same r).1 m;
    once = λ j. split (stands_earlier t.each j)
        (λ u. let (i, x, y, l, p, q, e) = (stands_iff t.each j).0 u in absurd (t.once i j x y l p q (ap (λ z. z.switch) e) (ap (λ z. z.key) e)))
        (λ u. u);
  });
}

-- a text is accepted as these rows exactly if it is a text of them
pub tables_accepted_iff : (s : List ℕ) (rs : List Row) → (read_tables s ≡ Ok rs) ↔ IsTables s rs
tables_accepted_iff s rs = (λ e. tables_only s rs (accepted s rs e), λ t. accepting s rs (tables_reads s rs t))
