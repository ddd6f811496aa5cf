-- One line says one thing (`pair_unique`): what stands in its columns tells the numbers, the words and the priorities. Assumes nothing.
use Prim.Native.Nat.{ℕ, zero, suc, ◌+◌, ◌-◌, ◌<◌, ◌≤◌}
use native.Mathlib.Omega.{arith}
use mathlib.Core.Path.{◌≡◌, refl, sym, ap, ◌∙◌}
use mathlib.Core.Bool.{true}
use mathlib.Core.List.{List, [], ◌∷◌, ◌++◌}
use Rattle.std.specs.Prelude.{Some, Option, None}
use lib.ListN.{length, get_or}
use lib.Seq.{append_snoc}
use Rattle.basics.specs.Text.{bytes}
use Rattle.basics.proofs.Booleans.{split}
use Rattle.text_numbers.specs.Number.{is_digit}
use Rattle.text_numbers.specs.Print.{print_number}
use Rattle.text_numbers.proofs.Readers.{nothing, same_value}
use Rattle.text_numbers.proofs.Numbers.{number_format, number_none, digit_range}
use Rattle.text_numbers.proofs.Format.{Ends, space_ends, whole, unique}
use Rattle.trace_words.specs.Words.{word_text, print_word, read_word}
use Rattle.trace_words.proofs.WordFormat.{word_format}
use Rattle.page_columns.specs.Columns.{blanks, right, left, columns}
use Rattle.page_columns.proofs.Columns.{Begins, right_unique}
use Rattle.page_lines.specs.Types.{Word, PairLine}
use Rattle.page_lines.specs.PairLines.{priority_text, pair_text}
use Rattle.page_lines.specs.Inner.{PriorityInRange, LineInRange}
use Rattle.page_lines.proofs.Widths.{word_short}
use Rattle.page_lines.proofs.PairColumns.{pair_columns}

-- ---- numbers
-- the text of a number begins with a digit
first_digit : (v : ℕ) → v ≤ 65535 → is_digit (get_or (print_number v) 0 0) ≡ true
first_digit v h = split (is_digit (get_or (print_number v) 0 0)) (λ e. e)
    (λ e. nothing (sym (number_none 65535 (print_number v) 0 e) ∙ (whole (number_format 65535 (omega arith)) (print_number v) v).1 (h, refl)))

begins : (v : ℕ) → v ≤ 65535 → Begins (print_number v)
begins v h e = go (print_number v) (first_digit v h) e
  where
    go : (t : List ℕ) → is_digit (get_or t 0 0) ≡ true → get_or t 0 32 ≡ 32 → ⊥
    go [] d e = absurd (omega (arith, digit_range 0 d))
    go (b ∷ t) d e = absurd (omega (arith, digit_range b d))

pub number_unique : (w v u : ℕ) → v ≤ 65535 → u ≤ 65535 → right w (print_number v) ≡ right w (print_number u) → v ≡ u
number_unique w v u h k e =
    unique (number_format 65535 (omega arith)) v u h k (right_unique w (print_number v) (print_number u) (begins v h) (begins u k) e)

-- ---- words
-- a word and blanks: the word with its space, and more blanks
word_then : (w : Word) → left 5 (word_text w) ≡ print_word w ++ blanks (4 - length (word_text w))
unfolding left blanks
word_then w =
    let n : 5 - length (word_text w) ≡ suc (4 - length (word_text w)) = omega (arith, word_short w) in
    rw n (sym (append_snoc (word_text w) 32 _))

blanks_end : (n : ℕ) → Ends (blanks n)
unfolding blanks is_digit
blanks_end zero = record { digit = refl; comma = refl }
blanks_end (suc n) = space_ends (blanks n)

word_read : (w : Word) → read_word (left 5 (word_text w)) 0 ≡ Some (w, 0 + length (print_word w))
word_read w = word_format.reads w tt (left 5 (word_text w)) 0 (blanks (4 - length (word_text w))) (blanks_end (4 - length (word_text w))) (word_then w)

word_unique : (v w : Word) → left 5 (word_text v) ≡ left 5 (word_text w) → v ≡ w
word_unique v w e = same_value (sym (word_read v) ∙ ap (λ (s : List ℕ). read_word s 0) e ∙ word_read w)

-- ---- priorities
dash_begins : Begins (priority_text None)
dash_begins e = absurd (omega arith)

priority_begins : (p : Option ℕ) → PriorityInRange p → Begins (priority_text p)
priority_begins None h = dash_begins
priority_begins (Some n) h = begins n (omega arith)

-- `-` is no number
no_dash : {P : Type 0} (n : ℕ) → n < 65536 → bytes "-" ≡ print_number n → P
no_dash n h e = absurd (omega (arith, digit_range 45 (ap (λ (t : List ℕ). is_digit (get_or t 0 0)) e ∙ first_digit n (omega arith))))

same_priority : (p q : Option ℕ) → PriorityInRange p → PriorityInRange q → priority_text p ≡ priority_text q → p ≡ q
same_priority None None h k e = refl
same_priority None (Some n) h k e = no_dash n k e
same_priority (Some n) None h k e = no_dash n h (sym e)
same_priority (Some n) (Some m) h k e = ap Some (unique (number_format 65535 (omega arith)) n m (omega arith) (omega arith) e)

priority_unique : (p q : Option ℕ) → PriorityInRange p → PriorityInRange q → right 5 (priority_text p) ≡ right 5 (priority_text q) → p ≡ q
priority_unique p q h k e = same_priority p q h k (right_unique 5 (priority_text p) (priority_text q) (priority_begins p h) (priority_begins q k) e)

-- ---- lines
module _ (l m : PairLine) (h : LineInRange l) (k : LineInRange m) (e : pair_text l ≡ pair_text m) where
  -- what the same columns of both hold
  cut : (from to : ℕ) {a b : List ℕ} → columns from to (pair_text l) ≡ a → columns from to (pair_text m) ≡ b → a ≡ b
  cut from to p q = sym p ∙ ap (columns from to) e ∙ q

  pub pair_unique : l ≡ m
  pair_unique =
      let c = pair_columns l h in
      let d = pair_columns m k in
      let lower : l.lower.event ≡ m.lower.event = number_unique 3 _ _ (omega (arith, h.lower)) (omega (arith, k.lower)) (cut 1 3 c.lower.1 d.lower.1) in
      let higher : l.higher.event ≡ m.higher.event = number_unique 3 _ _ (omega (arith, h.higher)) (omega (arith, k.higher)) (cut 5 7 c.higher.1 d.higher.1) in
      let switch : l.switch ≡ m.switch = number_unique 2 _ _ (omega (arith, h.switch)) (omega (arith, k.switch)) (cut 9 10 c.switch.1 d.switch.1) in
      let lower_word_lem : l.lower.word ≡ m.lower.word = word_unique _ _ (cut 12 16 c.lower_word.1 d.lower_word.1) in
      let higher_word_lem : l.higher.word ≡ m.higher.word = word_unique _ _ (cut 17 21 c.higher_word.1 d.higher_word.1) in
      let lower_priority_lem : l.lower.priority ≡ m.lower.priority = priority_unique _ _ h.lower_priority k.lower_priority (cut 22 26 c.lower_priority.1 d.lower_priority.1) in
      let higher_priority_lem : l.higher.priority ≡ m.higher.priority = priority_unique _ _ h.higher_priority k.higher_priority (cut 28 32 c.higher_priority.1 d.higher_priority.1) in
      λ i. record {
        switch = switch i;
        lower = record { event = lower i; word = lower_word_lem i; priority = lower_priority_lem i };
        higher = record { event = higher i; word = higher_word_lem i; priority = higher_priority_lem i };
      }
