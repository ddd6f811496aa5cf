-- Reading a table text tells the first of the refusals 11 to 16 that applies (`tables_refused_iff`), and accepts the text exactly if none
-- does (`tables_accepted_none`). By themselves: the lines (`row_refused_iff`) and the keys (`key_refused_iff`). Assumes nothing.
use mathlib.Core.Path.{◌≡◌, refl, sym, ap, ◌∙◌}
use mathlib.Core.Bool.{true, not}
use mathlib.Core.Logic.{◌↔◌, ⊎_elim}
use mathlib.Core.List.{List, [], ◌∷◌, ◌++◌}
use Rattle.std.specs.Prelude.{Option, None, Some, Ok, Err}
use Prim.Native.Nat.{ℕ, ◌≤◌}
use native.Mathlib.Omega.{arith}
use lib.ListN.{length}
use borrow.Author.Tests.{not-true}
use Rattle.text_lines.specs.Lines.{lines}
use Rattle.text_lines.specs.Limits.{limit_of, Within}
use Rattle.text_lines.proofs.LimitLaws.{within_limit}
use Rattle.text_reader.specs.Each.{read_each}
use Rattle.text_fields.specs.Written.{clear_entry}
use Rattle.refusals.specs.Checks.{Checked, ◌▹◌, refuse_if, refuse_at, refuse_none, refuse_limit}
use Rattle.basics.proofs.Searches.{lowest_iff}
use Rattle.refusals.specs.Refusals.{number_of}
use Rattle.refusals.proofs.Checks.{not_refused, refused_by, found_at}
use Rattle.rows_sort.specs.Sorting.{stands_earlier}
use Rattle.rows_sort.proofs.SortLaws.{Twice, stands_iff}
use Rattle.tables_text.specs.TableText.{read_row, read_row_line, first_twice, in_order, read_tables, LowestOn}
use Rattle.tables_text.proofs.RowFormat.{row_format}
use Rattle.tables_text.proofs.Lines.{ReadAs, read_as, as_read, printed}
use Rattle.tables_text.proofs.Sorting.{held}
use Rattle.tables_text.proofs.KeyTwice.{twice_lines}
use Rattle.refusals_order.specs.Types.{Refusal, Row}
use Rattle.refusals_order.specs.Causes.{Cause, FirstOf, NoneOf, When, line_by_line, LowestLine}
use Rattle.refusals_order.specs.Texts.{limit_causes}
use Rattle.refusals_order.specs.Tables.{RowMalformed, RowBit, row_causes, RowLinesOf, key_cause, tables_causes}
use Rattle.refusals_order.proofs.Causes.{Tells, handed_none, then_tells, none_tells, some_handed, when_tells, found_tells, never_tells, each_tells, lowest_line_iff}
use Rattle.refusals_order.proofs.Texts.{limit_tells, bit_match}

-- ---- a line: 14, 15
malformed_iff : (l : List ℕ) → (read_row l ≡ None) ↔ RowMalformed l
malformed_iff l = (
  λ e x w. let p = (row_format l x).1 w in let z : ◌≡◌ {A = ℕ} 0 1 = cc in omega arith,
  λ h. go (read_row l) refl h,
)
  where
    go : (o : Option Row) → read_row l ≡ o → RowMalformed l → read_row l ≡ None
    go None e h = e
    go (Some x) e h = absurd (h x ((row_format l x).0 e))

bit_iff : (l : List ℕ) (x : Row) → read_row l ≡ Some x → (not (clear_entry x.entry) ≡ true) ↔ RowBit l
bit_iff l x e = (
  λ f. let w = (row_format l x).0 e in (x, w, (bit_match x.entry.key.pattern w.0.entry.key.pattern).0 (not-true _ f)),
  λ (y, w, d). let p = (row_format l y).1 w in let q : x ≡ y = cc in rw (q, (bit_match y.entry.key.pattern w.0.entry.key.pattern).1 d) refl,
)

row_tells : (k : ℕ) (l : List ℕ) → Tells (read_row_line k l) (row_causes k l)
unfolding read_row_line
row_tells k l =
    let bit : Cause = When (RowBit l) (Refusal.TablesAddressBit k) in
    let after : Row → Checked Row = λ x. refuse_if (not (clear_entry x.entry)) (Refusal.TablesAddressBit k) ▹ λ _. Ok x in
    then_tells (refuse_none (read_row l) (Refusal.TablesMalformed k)) after (When (RowMalformed l) (Refusal.TablesMalformed k) ∷ []) (bit ∷ [])
    (none_tells (read_row l) (RowMalformed l) (malformed_iff l) (Refusal.TablesMalformed k))
    (λ x e. then_tells (refuse_if (not (clear_entry x.entry)) (Refusal.TablesAddressBit k)) (λ _. Ok x) (bit ∷ []) []
    (when_tells (not (clear_entry x.entry)) (RowBit l) (bit_iff l x (some_handed (read_row l) (Refusal.TablesMalformed k) e)) (Refusal.TablesAddressBit k))
    (λ _ f. never_tells x))

-- ---- 16
first_twice_iff : (s : List ℕ) (each : List Row) → ReadAs 0 (lines s) each → (k : ℕ) → (first_twice each ≡ Some k) ↔ LowestOn s k
first_twice_iff s each a k = (
  λ e. let l = (lowest_iff (Twice each) (stands_earlier each) (stands_iff each) (length each) k).0 e in
      ((twice_lines s each a k).0 l.here, λ j h w. l.none_lower j h ((twice_lines s each a j).1 w)),
  λ (t, n). let (i, x, y, h, p, q, e) = (twice_lines s each a k).1 t in
      (lowest_iff (Twice each) (stands_earlier each) (stands_iff each) (length each) k).1
      (record { inside = held each k y q; here = (i, x, y, h, p, q, e); none_lower = λ j l w. n j l ((twice_lines s each a j).0 w) }),
)

-- ---- the text
pub tables_tell : (s : List ℕ) → Tells (read_tables s) (tables_causes s)
unfolding read_tables tables_causes
tables_tell s =
    then_tells (refuse_limit (limit_of s) Refusal.TablesTooLong Refusal.TablesUnended Refusal.TablesTooManyLines) (λ _. read_each read_row_line 0 (lines s) ▹ keys)
    (limit_causes s Refusal.TablesTooLong Refusal.TablesUnended Refusal.TablesTooManyLines) (line_by_line row_causes 0 (lines s) ++ (key_cause s ∷ []))
    (limit_tells s Refusal.TablesTooLong Refusal.TablesUnended Refusal.TablesTooManyLines)
    (λ _ k. then_tells (read_each read_row_line 0 (lines s)) keys (line_by_line row_causes 0 (lines s)) (key_cause s ∷ [])
    (each_tells read_row_line row_causes row_tells 0 (lines s))
    (λ each e. then_tells (refuse_at (first_twice each) Refusal.KeyTwice) (λ _. Ok (in_order each)) (key_cause s ∷ []) []
    (found_tells (first_twice each) (LowestOn s) (first_twice_iff s each (read_as 0 (lines s) each e)) Refusal.KeyTwice)
    (λ _ f. never_tells (in_order each))))
  where
    keys : List Row → Checked (List Row)
    keys each = refuse_at (first_twice each) Refusal.KeyTwice ▹ λ _. Ok (in_order each)

-- THE refusal of a table text: the first of document 01's list, 11, 12, 13; on each line 14, 15; 16, that applies
pub tables_refused_iff : (s : List ℕ) (r : Refusal) → (read_tables s ≡ Err r) ↔ FirstOf (tables_causes s) r
tables_refused_iff = tables_tell

-- a table text is accepted exactly if none applies
pub tables_accepted_none : (s : List ℕ) → ((rs : List Row) × (read_tables s ≡ Ok rs)) ↔ NoneOf (tables_causes s)
tables_accepted_none s = handed_none (read_tables s) (tables_causes s) (tables_tell s)

-- ---- the lines and the keys by themselves
row_number : (k : ℕ) (l : List ℕ) (r : Refusal) → FirstOf (row_causes k l) r → number_of r ≤ 15
row_number k l r f =
    ⊎_elim (λ (p, e). omega (arith, ap number_of e))
    (λ (n, g). ⊎_elim (λ (p, e). omega (arith, ap number_of e)) (λ (u, v). absurd v) g) f

module _ (s : List ℕ) (w : Within s) where
  abbrev keys_of : List Row → Checked (List Row)
  keys_of each = refuse_at (first_twice each) Refusal.KeyTwice ▹ λ _. Ok (in_order each)

  lines_then : read_tables s ≡ (read_each read_row_line 0 (lines s) ▹ keys_of)
  unfolding read_tables
  lines_then = rw (within_limit s w) refl

  -- 14, 15: a text within the limits is refused by a line exactly if that is the lowest line that fails one of the two checks, and by the
  -- first of them that it fails
  pub row_refused_iff : (r : Refusal) → ((read_tables s ≡ Err r) × (number_of r ≤ 15)) ↔ LowestLine row_causes (lines s) r
  row_refused_iff r = (
    λ (e, n). refused_by (read_each read_row_line 0 (lines s)) keys_of (sym lines_then ∙ e)
        (λ f. (lowest_line_iff row_causes (lines s) r).0 ((each_tells read_row_line row_causes row_tells 0 (lines s) r).0 f))
        (λ each f g. refused_by (refuse_at (first_twice each) Refusal.KeyTwice) (λ _. Ok (in_order each)) g
        (λ h. let (k, p, q) = found_at (first_twice each) Refusal.KeyTwice h in absurd (omega (arith, ap number_of q)))
        (λ _ h u. not_refused u)),
    λ m. (
      lines_then ∙ ap (λ x. x ▹ keys_of) ((each_tells read_row_line row_causes row_tells 0 (lines s) r).1 ((lowest_line_iff row_causes (lines s) r).1 m)),
      row_number m.line m.text r m.first,
    ),
  )

  -- 16: where no line is refused, line k is exactly if it is the lowest whose switch and key stand on an earlier one
  pub key_refused_iff : (each : List Row) → RowLinesOf s each → (k : ℕ) → (read_tables s ≡ Err (Refusal.KeyTwice k)) ↔ LowestOn s k
  key_refused_iff each (p, i) k = (
    λ e. refused_by (refuse_at (first_twice each) Refusal.KeyTwice) (λ _. Ok (in_order each)) (sym then_keys ∙ e)
        (λ h. let (j, f, q) = found_at (first_twice each) Refusal.KeyTwice h in let same : k ≡ j = cc in (first_twice_iff s each read k).0 (f ∙ ap Some (sym same)))
        (λ _ h u. not_refused u),
    λ l. then_keys ∙ ap (λ x. refuse_at x Refusal.KeyTwice ▹ λ _. Ok (in_order each)) ((first_twice_iff s each read k).1 l),
  )
    where
      read : ReadAs 0 (lines s) each
      read = rw p (printed 0 each i)

      then_keys : read_tables s ≡ keys_of each
      then_keys = lines_then ∙ ap (λ x. x ▹ keys_of) (as_read 0 (lines s) each read)
