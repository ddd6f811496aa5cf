-- Laws of rows as text.
use Prim.Native.Nat.{ℕ, ◌+◌, ◌*◌, ◌≤◌, ◌<◌}
use mathlib.Core.List.{List, [], ◌∷◌, ◌++◌, append_assoc, Memᴰ}
use mathlib.Core.Path.{◌≡◌, refl, sym, ◌∙◌, ap}
use native.Mathlib.Numerals.{add-one}
use native.Mathlib.Omega.{arith}
use lib.ListN.{length, get_or, take, length-append}
use lib.Seq.{take-suc, take_all}
use Rattle.basics.specs.Text.{bytes}
use Rattle.text_numbers.specs.Inner.{Put}
use Rattle.text_numbers.proofs.Writing.{put_none, put_then}
use Rattle.text_lines.specs.Lines.{unlines}
use Rattle.tables_normal.specs.Types.{Row}
use Rattle.tables_text.specs.TableText.{print_row, RowInRange}
use Rattle.tables_normal.specs.Normal.{normal_text}
use Rattle.text_numbers.proofs.Print.{print_length, print_short}
use Rattle.text_put_fields.proofs.Lengths.{entry_length, entry_most}

-- ---- the text of rows
row_length : (r : Row) → length (print_row r) ≤ 276
unfolding print_row
row_length r = simp length-append (omega (arith, print_length r.switch, entry_length r.entry))

normal_snoc : (rs : List Row) (r : Row) → normal_text (rs ++ (r ∷ [])) ≡ normal_text rs ++ (print_row r ++ bytes "\n")
unfolding normal_text unlines
normal_snoc [] r = refl
normal_snoc (x ∷ rs) r = ap (λ (l : List ℕ). print_row x ++ 10 ∷ l) (normal_snoc rs r) ∙ sym (append_assoc (print_row x) (10 ∷ normal_text rs) (print_row r ++ bytes "\n"))

-- in range a line has at most 115 bytes, and there is such a line (replay_agreement `row_longest`)
row_most : (r : Row) → RowInRange r → length (print_row r) ≤ 114
unfolding print_row
row_most r h = let w = h.switch in simp length-append (omega (arith, print_short 1 r.switch (omega arith), entry_most r.entry h.entry))

pub normal_most : (rs : List Row) → ((r : Row) → Memᴰ r rs → RowInRange r) → length (normal_text rs) ≤ 115 * length rs
unfolding normal_text unlines
normal_most [] h = omega arith
normal_most (r ∷ rs) h = simp length-append (omega (arith, row_most r (h r (Memᴰ.head refl)), normal_most rs (λ x m. h x (Memᴰ.tail m))))

-- ---- the loop over the rows, the first i of them written
pub line_room : (r : Row) (xs : List ℕ) (n : ℕ) (ys : List ℕ) → Put (print_row r ++ bytes "\n") 0 xs n ys → n ≤ 277
line_room r xs n ys p = omega (arith, p.after, length-append (print_row r) (bytes "\n"), row_length r)

module _ (l : List Row) where
  pub normal_none : (xs : List ℕ) → Put (normal_text (take 0 l)) 0 xs 0 xs
  unfolding normal_text unlines
  normal_none xs = put_none 0 xs

  pub normal_more : (i : ℕ) (d : Row) {xs ys zs : List ℕ} {at m : ℕ} → i < length l → Put (normal_text (take i l)) 0 xs at ys
      → Put (print_row (get_or l i d) ++ bytes "\n") at ys m zs → Put (normal_text (take (i + 1) l)) 0 xs m zs
  normal_more i d h p q = rw (add-one, take-suc l i d h, normal_snoc) (put_then p q)

  pub normal_all : (i : ℕ) {xs ys : List ℕ} {at : ℕ} → length l ≤ i → Put (normal_text (take i l)) 0 xs at ys → Put (normal_text l) 0 xs at ys
  normal_all i h p = rw (take_all i l h) at p
