-- A line made of blanks into which each part is put in its columns. Assumes nothing.
use Prim.Native.Nat.{ℕ, ◌+◌}
use native.Mathlib.Omega.{arith}
use mathlib.Core.Path.{◌≡◌, refl, subst, ◌∙◌}
use mathlib.Core.List.{List, [], ◌∷◌, ◌++◌}
use lib.ListN.{set, replicate, length-append}
use lib.Seq.{sets}
use Rattle.text_numbers.specs.Print.{print_number}
use Rattle.text_numbers.specs.Inner.{Put}
use Rattle.trace_words.specs.Words.{word_text}
use Rattle.page_columns.specs.Columns.{blanks, right, left}
use Rattle.page_columns.proofs.Columns.{Fields, beside_snoc, field_put}
use Rattle.page_lines.specs.Types.{PairLine}
use Rattle.page_lines.specs.PairLines.{priority_text, pair_fields, pair_text}
use Rattle.page_lines.specs.Inner.{LineInRange}
use Rattle.page_lines.proofs.PairColumns.{line_widths, pair_length, lower_width, higher_width, switch_width, lower_word_width, higher_word_width, lower_priority_width, higher_priority_width}

-- the fields before anything is put, and the LF's
abbrev no_fields : List (List ℕ)
no_fields =
    blanks 3 ∷ blanks 1 ∷ blanks 3 ∷ blanks 1 ∷ blanks 2 ∷ blanks 1 ∷ blanks 5 ∷ blanks 5 ∷ blanks 5 ∷ blanks 1 ∷ blanks 5 ∷ blanks 28 ∷ blanks 1 ∷ []

no_line : Fields (line_widths ++ (1 ∷ [])) no_fields (replicate 61 32)
unfolding blanks
no_line = record { stand = refl; wide = refl }

module _ (l : PairLine) (h : LineInRange l) where
  pub line_made : {a b c d e f g made : List ℕ}
      → a ≡ sets (replicate 61 32) 0 (right 3 (print_number l.lower.event))
      → b ≡ sets a 4 (right 3 (print_number l.higher.event))
      → c ≡ sets b 8 (right 2 (print_number l.switch))
      → d ≡ sets c 11 (left 5 (word_text l.lower.word))
      → e ≡ sets d 16 (left 5 (word_text l.higher.word))
      → f ≡ sets e 21 (right 5 (priority_text l.lower.priority))
      → g ≡ sets f 27 (right 5 (priority_text l.higher.priority))
      → made ≡ set g 60 10
      → made ≡ pair_text l ++ (10 ∷ [])
  unfolding pair_text pair_fields
  line_made p1 p2 p3 p4 p5 p6 p7 p8 =
      let ns : List ℕ = line_widths ++ (1 ∷ []) in
      let s1 = field_put (right 3 (print_number l.lower.event)) ns 0 0 no_line (omega arith) refl (lower_width l h) p1 in
      let s2 = field_put (right 3 (print_number l.higher.event)) ns 2 4 s1 (omega arith) refl (higher_width l h) p2 in
      let s3 = field_put (right 2 (print_number l.switch)) ns 4 8 s2 (omega arith) refl (switch_width l h) p3 in
      let s4 = field_put (left 5 (word_text l.lower.word)) ns 6 11 s3 (omega arith) refl (lower_word_width l h) p4 in
      let s5 = field_put (left 5 (word_text l.higher.word)) ns 7 16 s4 (omega arith) refl (higher_word_width l h) p5 in
      let s6 = field_put (right 5 (priority_text l.lower.priority)) ns 8 21 s5 (omega arith) refl (lower_priority_width l h) p6 in
      let s7 = field_put (right 5 (priority_text l.higher.priority)) ns 10 27 s6 (omega arith) refl (higher_priority_width l h) p7 in
      let s8 = field_put (10 ∷ []) ns 12 60 s7 (omega arith) refl refl p8 in
      s8.stand ∙ beside_snoc (pair_fields l) (10 ∷ [])

  -- and put at a place of a buffer
  pub line_put : {made : List ℕ} {at n : ℕ} {xs ys : List ℕ} → made ≡ pair_text l ++ (10 ∷ []) → Put made at xs n ys → Put (pair_text l ++ (10 ∷ [])) at xs n ys × (n ≡ at + 61)
  line_put {at = at} {n} {xs} {ys} e p =
      let q : Put (pair_text l ++ (10 ∷ [])) at xs n ys = subst (λ (t : List ℕ). Put t at xs n ys) e p in
      (q, omega (arith, q.after, length-append (pair_text l) (10 ∷ []), pair_length l h))
