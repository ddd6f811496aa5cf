-- Each field of a line stands in document 01's columns (`pair_columns`), and the line is 60 bytes long. Assumes nothing.
use Prim.Native.Nat.{ℕ, suc, ◌-◌}
use mathlib.Core.Path.{◌≡◌, refl, ap, ◌∙◌}
use mathlib.Core.List.{List, [], ◌∷◌}
use lib.ListN.{length, get_or, take}
use Rattle.text_numbers.specs.Print.{print_number}
use Rattle.trace_words.specs.Words.{word_text}
use Rattle.page_columns.specs.Columns.{right, left, columns}
use Rattle.page_columns.proofs.Columns.{blanks_length, right_length, left_length, sum, widths, beside_length, in_columns}
use Rattle.page_lines.specs.Types.{PairLine}
use Rattle.page_lines.specs.PairLines.{priority_text, pair_fields, pair_text, PairColumns}
use Rattle.page_lines.specs.Inner.{LineInRange}
use Rattle.page_lines.proofs.Widths.{word_fits, priority_fits, event_fits, switch_fits}

-- the widths of a line's fields
abbrev pub line_widths : List ℕ
line_widths = 3 ∷ 1 ∷ 3 ∷ 1 ∷ 2 ∷ 1 ∷ 5 ∷ 5 ∷ 5 ∷ 1 ∷ 5 ∷ 28 ∷ []

module _ (l : PairLine) (h : LineInRange l) where
  pub lower_width : length (right 3 (print_number l.lower.event)) ≡ 3
  lower_width = right_length 3 _ (event_fits _ h.lower)

  pub higher_width : length (right 3 (print_number l.higher.event)) ≡ 3
  higher_width = right_length 3 _ (event_fits _ h.higher)

  pub switch_width : length (right 2 (print_number l.switch)) ≡ 2
  switch_width = right_length 2 _ (switch_fits _ h.switch)

  pub lower_word_width : length (left 5 (word_text l.lower.word)) ≡ 5
  lower_word_width = left_length 5 _ (word_fits l.lower.word)

  pub higher_word_width : length (left 5 (word_text l.higher.word)) ≡ 5
  higher_word_width = left_length 5 _ (word_fits l.higher.word)

  pub lower_priority_width : length (right 5 (priority_text l.lower.priority)) ≡ 5
  lower_priority_width = right_length 5 _ (priority_fits l.lower.priority h.lower_priority)

  pub higher_priority_width : length (right 5 (priority_text l.higher.priority)) ≡ 5
  higher_priority_width = right_length 5 _ (priority_fits l.higher.priority h.higher_priority)

  pair_widths : widths (pair_fields l) ≡ line_widths
  unfolding pair_fields
  pair_widths = rw (lower_width, higher_width, switch_width, lower_word_width, higher_word_width, lower_priority_width, higher_priority_width, blanks_length 1, blanks_length 28) refl

  -- a line is 60 bytes long
  pub pair_length : length (pair_text l) ≡ 60
  unfolding pair_text
  pair_length = beside_length (pair_fields l) ∙ ap sum pair_widths

  at_field : (from to k : ℕ) → sum (take k line_widths) ≡ from - 1 → get_or line_widths k 0 ≡ suc to - from → columns from to (pair_text l) ≡ get_or (pair_fields l) k []
  unfolding pair_text
  at_field from to k a b = in_columns from to (pair_fields l) line_widths k pair_widths a b

  pub pair_columns : PairColumns l (pair_text l)
  unfolding pair_fields
  pair_columns = record {
    lower = (event_fits _ h.lower, at_field 1 3 0 refl refl);
    blank4 = at_field 4 4 1 refl refl;
    higher = (event_fits _ h.higher, at_field 5 7 2 refl refl);
    blank8 = at_field 8 8 3 refl refl;
    switch = (switch_fits _ h.switch, at_field 9 10 4 refl refl);
    blank11 = at_field 11 11 5 refl refl;
    lower_word = (word_fits l.lower.word, at_field 12 16 6 refl refl);
    higher_word = (word_fits l.higher.word, at_field 17 21 7 refl refl);
    lower_priority = (priority_fits l.lower.priority h.lower_priority, at_field 22 26 8 refl refl);
    blank27 = at_field 27 27 9 refl refl;
    higher_priority = (priority_fits l.higher.priority h.higher_priority, at_field 28 32 10 refl refl);
    blank33 = at_field 33 60 11 refl refl;
  }
