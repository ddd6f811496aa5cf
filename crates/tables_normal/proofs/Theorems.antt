-- The normal form of a table text is accepted (`normal_accepted`), normal already (`normal_again`), holds the same entries
-- (`normal_holds`), and is the same for two texts just where they do (`same_normal`). Of any rows in range, one text is one list of
-- rows (`normal_injective`). Assumes nothing.
use Prim.Native.Nat.{ℕ, zero, suc, ◌<◌}
use mathlib.Core.Bool.{true}
use mathlib.Core.List.{List, [], ◌∷◌, map, Memᴰ}
use mathlib.Core.Logic.{◌↔◌, ◌⊎◌, inr}
use Rattle.std.specs.Prelude.{Some, Result, Ok, Err}
use Rattle.std.proofs.lemmas.Option.{same_Some}
use mathlib.Core.Option.{some, some-injective}
use mathlib.Core.Path.{◌≡◌, refl, sym, ◌∙◌, ap, subst}
use native.Mathlib.Omega.{arith}
use lib.ListN.{length, get_or, length-append, length-map}
use Rattle.std.specs.List.{slice_get}
use Rattle.text_numbers.proofs.Readers.{nothing}
use Rattle.text_lines.specs.Lines.{lines, unlines, ends_with_lf}
use Rattle.text_lines.specs.Inner.{newlines}
use Rattle.text_lines.proofs.Lines.{lines_plain, lines_unlines, unlines_ends}
use Rattle.flow.proofs.Orders.{equal≢less}
use Rattle.rows.specs.Rows.{row_order, RowBefore, SortedRows}
use Rattle.rows_sort.specs.Sorting.{sort_rows}
use Rattle.rows.proofs.RowOrder.{like_slot, row_self}
use Rattle.rows.proofs.RowLaws.{same_rows}
use Rattle.rows_sort.proofs.SortLaws.{Twice, Outcome, sort_outcome, stands_iff}
use Rattle.std.specs.declared.cmp.Ordering.{Ordering}
use Rattle.tables_normal.specs.Types.{Row}
use Rattle.tables_text.specs.TableText.{print_row, read_tables, HoldSame}
use Rattle.tables_normal.specs.Normal.{normal_text, normalised}
use Rattle.tables_normal.specs.Inner.{RowsInRange}
use Rattle.tables_text.proofs.RowFormat.{row_format, row_unique}
use Rattle.tables_text.proofs.Lines.{printed}
use Rattle.tables_normal.proofs.Writing.{normal_most}
use Rattle.tables_text.proofs.Accepted.{accepting, accepted_holds, accepted_sorted, accepted_range, accepted_length}

-- ---- one text is one list of rows
pub normal_injective : (rs qs : List Row) → RowsInRange rs → RowsInRange qs → normal_text rs ≡ normal_text qs → rs ≡ qs
unfolding normal_text unlines
normal_injective [] [] h k e = refl
normal_injective [] (q ∷ qs) h k e = absurd (omega (arith, ap length e, length-append (print_row q) (10 ∷ normal_text qs)))
normal_injective (r ∷ rs) [] h k e = absurd (omega (arith, ap length e, length-append (print_row r) (10 ∷ normal_text rs)))
normal_injective (r ∷ rs) (q ∷ qs) h k e =
    let (one, rest) = row_unique r q (h r (Memᴰ.head refl)) (k q (Memᴰ.head refl)) (normal_text rs) (normal_text qs) e in
    let others = normal_injective rs qs (λ x m. h x (Memᴰ.tail m)) (λ x m. k x (Memᴰ.tail m)) rest in
    λ i. one i ∷ others i

-- ---- the normal text is accepted
-- rows in order are sorted already
before_at : (x : Row) (xs : List Row) → RowBefore x xs → (k : ℕ) (y : Row) → slice_get xs k ≡ Some y → row_order x y ≡ Ordering.Less
before_at x [] b k y e = nothing e
before_at x (z ∷ xs) b zero y e = rw (← same_Some _ _ e) b.0
before_at x (z ∷ xs) b (suc k) y e = before_at x xs b.1 k y e

sorted_at : (rs : List Row) → SortedRows rs → (i k : ℕ) (x y : Row) → i < k → slice_get rs i ≡ Some x → slice_get rs k ≡ Some y → row_order x y ≡ Ordering.Less
sorted_at [] s i k x y h p q = nothing p
sorted_at (z ∷ rs) s i zero x y h p q = absurd (omega arith)
sorted_at (z ∷ rs) s zero (suc k) x y h p q = rw (← same_Some _ _ p) (before_at z rs s.0 k y q)
sorted_at (z ∷ rs) s (suc i) (suc k) x y h p q = sorted_at rs s.1 i k x y (omega arith) p q

never_twice : (rs : List Row) → SortedRows rs → (k : ℕ) → Twice rs k → ⊥
never_twice rs s k (i, x, y, h, p, q, e) = equal≢less (sym (row_self y) ∙ sym (like_slot x y y e) ∙ sorted_at rs s i k x y h p q)

sort_sorted : (rs : List Row) → SortedRows rs → sort_rows rs ≡ Ok rs
sort_sorted rs s = go (sort_rows rs) refl (sort_outcome rs)
  where
    go : (x : Result (List Row) ℕ) → sort_rows rs ≡ x → Outcome rs x → sort_rows rs ≡ Ok rs
    go (Err k) q o = absurd (never_twice rs s k ((stands_iff rs k).0 o.twice))
    go (Ok qs) q o = q ∙ ap Ok (same_rows qs rs o.sorted s o.forth o.back)

-- no row's text has an LF in it
plain_at : (rs : List Row) → ((r : Row) → Memᴰ r rs → newlines (print_row r) ≡ 0) → (k : ℕ) → newlines (get_or (map print_row rs) k []) ≡ 0
unfolding newlines
plain_at [] h k = refl
plain_at (r ∷ rs) h zero = h r (Memᴰ.head refl)
plain_at (r ∷ rs) h (suc k) = plain_at rs (λ x m. h x (Memᴰ.tail m)) k

get_d_at : (ls : List (List ℕ)) (k : ℕ) (l : List ℕ) → slice_get ls k ≡ Some l → get_or ls k [] ≡ l
get_d_at [] k l e = nothing e
get_d_at (x ∷ ls) zero l e = same_Some _ _ e
get_d_at (x ∷ ls) (suc k) l e = get_d_at ls k l e

module _ (s : List ℕ) (rs : List Row) (e : read_tables s ≡ Ok rs) where
  plain : (r : Row) → Memᴰ r rs → newlines (print_row r) ≡ 0
  plain r m =
      let (k, w) = (accepted_holds s rs e r).1 m in
      ap newlines (sym ((row_format w.0 r).0 w.2).1 ∙ sym (get_d_at (lines s) k w.0 w.1)) ∙ lines_plain s k

  normal_lines : lines (normal_text rs) ≡ map print_row rs
  unfolding normal_text
  normal_lines = lines_unlines (map print_row rs) (plain_at rs plain)

  normal_ends : ends_with_lf (normal_text rs) ≡ true
  unfolding normal_text
  normal_ends = unlines_ends (map print_row rs)

  -- the normal text of an accepted text is accepted, with the same rows
  pub normal_accepted : read_tables (normal_text rs) ≡ Ok rs
  normal_accepted = accepting (normal_text rs) rs (record {
    within = record {
      bytes = omega (arith, normal_most rs (accepted_range s rs e), accepted_length s rs e);
      ended = normal_ends;
      few = rw (normal_lines, length-map) (accepted_length s rs e);
    };
    each = rs;
    read = rw normal_lines (printed 0 rs (accepted_range s rs e));
    order = sort_sorted rs (accepted_sorted s rs e);
  })

  -- it is normal already: normalising twice changes nothing
  pub normal_again : (room : ℕ) → normalised (normal_text rs) room ≡ normalised s room
  unfolding normalised
  normal_again room = rw (normal_accepted, e)

  -- it holds the same entries on the same switches
  pub normal_holds : HoldSame s (normal_text rs)
  normal_holds r = (
    λ h. (accepted_holds (normal_text rs) rs normal_accepted r).1 ((accepted_holds s rs e r).0 h),
    λ h. (accepted_holds s rs e r).1 ((accepted_holds (normal_text rs) rs normal_accepted r).0 h),
  )

-- ---- demand 2 for the normaliser: two accepted texts have equal normal bytes just where they hold the same entries on the same switches
module _ (s t : List ℕ) (rs qs : List Row) (p : read_tables s ≡ Ok rs) (q : read_tables t ≡ Ok qs) where
  pub same_normal : (normal_text rs ≡ normal_text qs) ↔ HoldSame s t
  same_normal = (to, from)
    where
      to : normal_text rs ≡ normal_text qs → HoldSame s t
      to e r =
          let h = normal_injective rs qs (accepted_range s rs p) (accepted_range t qs q) e in (
            λ w. (accepted_holds t qs q r).1 (subst (Memᴰ r) h ((accepted_holds s rs p r).0 w)),
            λ w. (accepted_holds s rs p r).1 (subst (Memᴰ r) (sym h) ((accepted_holds t qs q r).0 w)),
          )

      from : HoldSame s t → normal_text rs ≡ normal_text qs
      from h =
          ap normal_text (same_rows rs qs (accepted_sorted s rs p) (accepted_sorted t qs q)
          (λ r m. (accepted_holds t qs q r).0 ((h r).0 ((accepted_holds s rs p r).1 m)))
          (λ r m. (accepted_holds s rs p r).0 ((h r).1 ((accepted_holds t qs q r).1 m))))
