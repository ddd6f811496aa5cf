-- What an accepted table text holds.
use Rattle.std.specs.Prelude.{Ok, Err, Option, None, Some}
use Prim.Native.Nat.{ℕ, ◌+◌, ◌≤◌}
use mathlib.Core.Bool.{Bool, true, false, cond}
use mathlib.Core.List.Memᴰ
use mathlib.Core.List.{List, [], ◌∷◌, Memᴰ}
use mathlib.Core.Logic.{◌↔◌, ⊎_elim}
use mathlib.Core.Path.{◌≡◌, refl, ap}
use native.Mathlib.Omega.{arith}
use borrow.Author.Tests.{eqb-true, eqb-false}
use lib.Dec.{eqb}
use lib.ListN.{length}
use Rattle.std.specs.Prelude.{Ok}
use Rattle.text_numbers.proofs.Readers.{on_cond}
use Rattle.text_reader.proofs.Each.{refuses}
use Rattle.refusals.specs.Checks.{Checked, ◌▹◌, refuse_limit}
use Rattle.text_lines.specs.Lines.{lines}
use Rattle.text_lines.specs.Limits.{limit_of, Within}
use Rattle.text_lines.proofs.LimitLaws.{within_limit, limit_within}
use Rattle.flow_table.specs.FlowTable.{Sorted}
use Rattle.flow_table.specs.Switches.{entries_held}
use Rattle.rows.specs.Rows.{row, SortedRows, table_of, tables_of, insert_row, any_row, same_slot}
use Rattle.rows_sort.specs.Sorting.{sort_from, sort_rows}
use Rattle.rows.proofs.RowLaws.{length_insert}
use Rattle.rows.proofs.TablesOf.{sorted_table}
use Rattle.rows.proofs.Gathered.{tables_held}
use Rattle.rows_sort.proofs.SortLaws.{InOrder, sort_rows_lem}
use Rattle.tables_text.specs.Types.{Entry, Refusal, Limit, Row}
use Rattle.tables_text.specs.TableText.{read_tables, Holds, RowInRange}
use Rattle.tables_text.specs.Inner.{read_rows, sorted_rows}
use Rattle.tables_text.proofs.Sorting.{order_checked, checked_order}
use Rattle.tables_text.proofs.Lines.{ReadAs, read_as, as_read, same_length, in_range_lem, on_line_lem, mem_at}

-- ---- an accepted text: none of the refusals applies to it
pub record Accepted (s : List ℕ) (rs : List Row) : Type 0 where
  pub within : Within s
  pub each : List Row
  pub read : ReadAs 0 (lines s) each
  pub order : sort_rows each ≡ Ok rs

pub accepted : (s : List ℕ) (rs : List Row) → read_tables s ≡ Ok rs → Accepted s rs
unfolding read_tables
accepted s rs e = go (limit_of s) refl e
  where
    lines_as : Within s → (x : Checked (List Row)) → read_rows s ≡ x → (x ▹ sorted_rows) ≡ Ok rs → Accepted s rs
    lines_as w (Err f) p q = refuses q
    lines_as w (Ok ls) p q = record { within = w; each = ls; read = read_as 0 (lines s) ls p; order = checked_order ls rs q }

    go : (x : Option Limit) → limit_of s ≡ x
        → (refuse_limit x Refusal.TablesTooLong Refusal.TablesUnended Refusal.TablesTooManyLines ▹ λ _. read_rows s ▹ sorted_rows) ≡ Ok rs → Accepted s rs
    go (Some Limit.TooLong) p q = refuses q
    go (Some Limit.Unended) p q = refuses q
    go (Some Limit.TooManyLines) p q = refuses q
    go None p q = lines_as (limit_within s p) (read_rows s) refl q

pub accepting : (s : List ℕ) (rs : List Row) → Accepted s rs → read_tables s ≡ Ok rs
unfolding read_tables
accepting s rs a = rw (within_limit s a.within, as_read 0 (lines s) a.each a.read) (order_checked a.each rs a.order)

-- ---- what holds of an accepted text and its rows
sort_length : (k : ℕ) (earlier ls rs : List Row) → sort_from k earlier ls ≡ Ok rs → length rs ≤ length earlier + length ls
unfolding sort_from
sort_length k earlier [] rs e = let h : earlier ≡ rs = cc in rw h (omega arith)
sort_length k earlier (x ∷ ls) rs e =
    on_cond (any_row (same_slot x) earlier) (λ t p. cc)
    (λ t p. omega (arith, sort_length (k + 1) (insert_row x earlier) ls rs p, length_insert x earlier)) e

sorted_length : (ls rs : List Row) → sort_rows ls ≡ Ok rs → length rs ≤ length ls
unfolding sort_rows
sorted_length ls rs e = omega (arith, sort_length 0 [] ls rs e)

-- an entry is in the table of switch w where the rows hold it with that switch
table_mem : (w : ℕ) (rs : List Row) (f : Entry) → Memᴰ f (table_of w rs) ↔ Memᴰ (row w f) rs
table_mem w [] f = (λ m. absurd (Memᴰ.not-nil m), λ m. absurd (Memᴰ.not-nil m))
table_mem w (x ∷ xs) f = go (eqb w x.switch) refl (table_mem w xs f)
  where
    go : (b : Bool) → eqb w x.switch ≡ b → (Memᴰ f (table_of w xs) ↔ Memᴰ (row w f) xs)
        → Memᴰ f (cond b (x.entry ∷ table_of w xs) (table_of w xs)) ↔ Memᴰ (row w f) (x ∷ xs)
    go true q ih = (
      λ m. ⊎_elim (λ e. Memᴰ.head (λ i. row (eqb-true w x.switch q i) (e i))) (λ n. Memᴰ.tail (ih.0 n)) (Memᴰ.cases_cons m),
      λ m. ⊎_elim (λ e. Memᴰ.head (ap (λ (z : Row). z.entry) e)) (λ n. Memᴰ.tail (ih.1 n)) (Memᴰ.cases_cons m),
    )
    go false q ih = (
      λ m. Memᴰ.tail (ih.0 m),
      λ m. ⊎_elim (λ e. absurd (eqb-false w x.switch q (ap (λ (z : Row). z.switch) e))) ih.1 (Memᴰ.cases_cons m),
    )

module _ (s : List ℕ) (rs : List Row) (e : read_tables s ≡ Ok rs) where
  all : Accepted s rs
  all = accepted s rs e

  each_in_order : InOrder all.each rs
  each_in_order = sort_rows_lem all.each rs all.order

  -- its rows are those of its lines
  pub accepted_holds : (r : Row) → Holds s r ↔ Memᴰ r rs
  accepted_holds r = (
    λ (k, w). each_in_order.back r ((mem_at all.each r).1 (k, (on_line_lem 0 (lines s) all.each all.read k r).1 w)),
    λ m. let (k, p) = (mem_at all.each r).0 (each_in_order.forth r m) in (k, (on_line_lem 0 (lines s) all.each all.read k r).0 p),
  )

  -- switches rising, then table order
  pub accepted_sorted : SortedRows rs
  accepted_sorted = each_in_order.sorted

  -- each row is in range
  pub accepted_range : (r : Row) → Memᴰ r rs → RowInRange r
  accepted_range r m = in_range_lem 0 (lines s) all.each all.read r (each_in_order.forth r m)

  -- there are at most 256
  pub accepted_length : length rs ≤ 256
  accepted_length = omega (arith, sorted_length all.each rs all.order, same_length 0 (lines s) all.each all.read, all.within.few)

  -- so at most 256 entries come in, on all switches together
  pub accepted_held : (n : ℕ) → entries_held n (tables_of rs) ≤ 256
  accepted_held n = omega (arith, tables_held n rs, accepted_length)

  -- each switch's rows are a table in order
  pub accepted_table : (w : ℕ) → Sorted (table_of w rs)
  accepted_table w = sorted_table w rs accepted_sorted

  -- with just the entries that the text holds on that switch
  pub accepted_entries : (w : ℕ) (f : Entry) → Memᴰ f (table_of w rs) ↔ Holds s (row w f)
  accepted_entries w f = (
    λ m. (accepted_holds (row w f)).1 ((table_mem w rs f).0 m),
    λ h. (table_mem w rs f).1 ((accepted_holds (row w f)).0 h),
  )
