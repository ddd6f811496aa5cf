-- The rows of a text's lines, line by line.
use Prim.Native.Nat.{ℕ, zero, suc, ◌+◌}
use mathlib.Core.Bool.{Bool, true, false, not}
use mathlib.Core.List.Memᴰ
use mathlib.Core.List.{List, [], ◌∷◌, map, Memᴰ}
use mathlib.Core.Logic.{◌↔◌, ⊎_elim}
use Rattle.std.specs.Prelude.{Option, None, Some, Ok}
use Rattle.std.proofs.lemmas.Option.{same_Some}
use mathlib.Core.Path.{◌≡◌, refl, sym, ◌∙◌, ap}
use lib.ListN.{length}
use Rattle.std.specs.List.{slice_get}
use Rattle.text_reader.proofs.Each.{refuses, Each, each_length, each_only, each_reads}
use Rattle.text_reader.specs.Each.{read_each}
use Rattle.text_numbers.proofs.Readers.{nothing}
use Rattle.refusals.specs.Checks.{◌▹◌, refuse_none, refuse_if}
use Rattle.text_fields.specs.Written.{clear_entry}
use Rattle.tables_text.specs.Types.{Row, Refusal}
use Rattle.tables_text.specs.TableText.{print_row, read_row, read_row_line, RowInRange}
use Rattle.tables_text.proofs.RowFormat.{row_format, row_range}

-- a line is the text of its row, and the row is in range
abbrev RowOf : ℕ → List ℕ → Row → Type 0
RowOf k l r = (read_row l ≡ Some r) × RowInRange r

abbrev pub ReadAs : ℕ → List (List ℕ) → List Row → Type 0
ReadAs = Each RowOf

-- ---- a line
only_row : (k : ℕ) (l : List ℕ) (r : Row) → read_row_line k l ≡ Ok r → RowOf k l r
unfolding read_row_line
only_row k l r e = go (read_row l) refl e
  where
    fits : (x : Row) (b : Bool) → read_row l ≡ Some x → clear_entry x.entry ≡ b → (refuse_if (not b) (Refusal.TablesAddressBit k) ▹ λ _. Ok x) ≡ Ok r → RowOf k l r
    fits x true q c p =
        let h : x ≡ r = cc in
        rw (← h) (q, (row_range x).0 (((row_format l x).0 q).0, c))
    fits x false q c p = refuses p

    go : (o : Option Row) → read_row l ≡ o → (refuse_none o (Refusal.TablesMalformed k) ▹ λ x. refuse_if (not (clear_entry x.entry)) (Refusal.TablesAddressBit k) ▹ λ _. Ok x) ≡ Ok r → RowOf k l r
    go None q p = refuses p
    go (Some x) q p = fits x (clear_entry x.entry) q refl p

row_line : (k : ℕ) (l : List ℕ) (r : Row) → RowOf k l r → read_row_line k l ≡ Ok r
unfolding read_row_line
row_line k l r h = rw (h.0, ((row_range r).1 h.1).1)

-- ---- the lines
pub read_as : (k : ℕ) (ls : List (List ℕ)) (rs : List Row) → read_each read_row_line k ls ≡ Ok rs → ReadAs k ls rs
read_as = each_only read_row_line RowOf only_row

pub as_read : (k : ℕ) (ls : List (List ℕ)) (rs : List Row) → ReadAs k ls rs → read_each read_row_line k ls ≡ Ok rs
as_read = each_reads read_row_line RowOf row_line

-- ---- what the lines hold
pub same_length : (k : ℕ) (ls : List (List ℕ)) (rs : List Row) → ReadAs k ls rs → length ls ≡ length rs
same_length = each_length RowOf

pub in_range_lem : (n : ℕ) (ls : List (List ℕ)) (rs : List Row) → ReadAs n ls rs → (r : Row) → Memᴰ r rs → RowInRange r
in_range_lem n [] [] h r m = absurd (Memᴰ.not-nil m)
in_range_lem n [] (x ∷ rs) h r m = absurd h
in_range_lem n (l ∷ ls) [] h r m = absurd h
in_range_lem n (l ∷ ls) (x ∷ rs) h r m = ⊎_elim (λ e. rw e h.0.1) (in_range_lem (n + 1) ls rs h.1 r) (Memᴰ.cases_cons m)

-- the row of line k
abbrev LineOf : List (List ℕ) → ℕ → Row → Type 0
LineOf ls k r = (l : List ℕ) × (slice_get ls k ≡ Some l) × (read_row l ≡ Some r)

pub on_line_lem : (n : ℕ) (ls : List (List ℕ)) (rs : List Row) → ReadAs n ls rs → (k : ℕ) (r : Row) → (slice_get rs k ≡ Some r) ↔ LineOf ls k r
on_line_lem n [] [] h k r = (λ e. nothing e, λ w. nothing w.1)
on_line_lem n [] (x ∷ rs) h k r = absurd h
on_line_lem n (l ∷ ls) [] h k r = absurd h
on_line_lem n (l ∷ ls) (x ∷ rs) h zero r = (
  λ e. (l, refl, h.0.0 ∙ e),
  λ w. sym h.0.0 ∙ ap read_row (same_Some _ _ w.1) ∙ w.2,
)
on_line_lem n (l ∷ ls) (x ∷ rs) h (suc k) r = on_line_lem (n + 1) ls rs h.1 k r

-- the members of a list are those at its places
pub mem_at : {A : Type 0} (rs : List A) (r : A) → Memᴰ r rs ↔ ((k : ℕ) × (slice_get rs k ≡ Some r))
mem_at [] r = (λ m. absurd (Memᴰ.not-nil m), λ w. nothing w.1)
mem_at (x ∷ rs) r = (
  λ m. ⊎_elim (λ e. (0, ap Some (sym e))) (λ n. let (k, p) = (mem_at rs r).0 n in (suc k, p)) (Memᴰ.cases_cons m),
  λ w. at w.0 w.1 (mem_at rs r).1,
)
  where
    at : (k : ℕ) → slice_get (x ∷ rs) k ≡ Some r → (((k : ℕ) × (slice_get rs k ≡ Some r)) → Memᴰ r rs) → Memᴰ r (x ∷ rs)
    at zero e ih = Memᴰ.head (sym (same_Some _ _ e))
    at (suc k) e ih = Memᴰ.tail (ih (k, e))

-- the texts of rows in range read as these rows
pub printed : (n : ℕ) (rs : List Row) → ((r : Row) → Memᴰ r rs → RowInRange r) → ReadAs n (map print_row rs) rs
printed n [] h = tt
printed n (r ∷ rs) h =
    let i = h r (Memᴰ.head refl) in
    (((row_format (print_row r) r).1 (((row_range r).1 i).0, refl), i), printed (n + 1) rs (λ x m. h x (Memᴰ.tail m)))
