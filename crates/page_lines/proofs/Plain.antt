-- No line has an LF in it. Assumes nothing.
use Prim.Native.Nat.{ℕ, zero, suc, ◌+◌, ◌-◌, ◌/◌, ◌%◌, ◌≤◌}
use native.Mathlib.Decide.{dec_lt}
use native.Mathlib.Omega.{arith}
use mathlib.Core.Path.{◌≡◌, refl, ◌∙◌}
use mathlib.Core.List.{List, [], ◌∷◌, ◌++◌}
use Rattle.std.specs.Prelude.{Option, None, Some}
use lib.ListN.{length}
use borrow.Author.Tests.{ne_eqb, lt-ltb, le-ltb}
use Rattle.text_numbers.specs.Print.{decimal, print_number}
use Rattle.text_lines.specs.Inner.{newlines}
use Rattle.text_lines.proofs.Lines.{newlines_append}
use Rattle.trace_words.specs.Words.{word_text}
use Rattle.page_columns.specs.Columns.{blanks, right, left, beside}
use Rattle.page_lines.specs.Types.{Origin, Word, SwitchWord, Write, PairLine}
use Rattle.page_lines.specs.PairLines.{priority_text, pair_fields, pair_text}

-- one text behind another
both_plain : (a b : List ℕ) → newlines a ≡ 0 → newlines b ≡ 0 → newlines (a ++ b) ≡ 0
both_plain a b p q = newlines_append a b ∙ rw (p, q)

one_plain : (b : ℕ) → (b ≡ 10 → ⊥) → newlines (b ∷ []) ≡ 0
unfolding newlines
one_plain b h = rw (ne_eqb b 10 h)

blanks_plain : (n : ℕ) → newlines (blanks n) ≡ 0
unfolding blanks newlines
blanks_plain zero = refl
blanks_plain (suc n) = blanks_plain n

decimal_plain : (k n : ℕ) → newlines (decimal k n) ≡ 0
unfolding decimal newlines
decimal_plain zero n = refl
decimal_plain (suc k) n =
    elim (dec_lt n 10) [
      | yes l ↦ rw (lt-ltb _ _ l) (one_plain (48 + n) (λ e. omega arith))
      | no l ↦ let g : 10 ≤ n = omega arith in rw (le-ltb _ _ g) (both_plain (decimal k (n / 10)) ((48 + n % 10) ∷ []) (decimal_plain k (n / 10)) (one_plain (48 + n % 10) (λ e. omega arith)))
    ]

pub number_plain : (n : ℕ) → newlines (print_number n) ≡ 0
unfolding print_number
number_plain n = decimal_plain 20 n

pub right_plain : (w : ℕ) (text : List ℕ) → newlines text ≡ 0 → newlines (right w text) ≡ 0
unfolding right
right_plain w text h = both_plain (blanks (w - length text)) text (blanks_plain (w - length text)) h

left_plain : (w : ℕ) (text : List ℕ) → newlines text ≡ 0 → newlines (left w text) ≡ 0
unfolding left
left_plain w text h = both_plain text (blanks (w - length text)) h (blanks_plain (w - length text))

word_plain : (w : Word) → newlines (word_text w) ≡ 0
unfolding newlines
word_plain Word.Other = refl
word_plain (Word.On SwitchWord.Barrier) = refl
word_plain (Word.On SwitchWord.Message) = refl
word_plain (Word.On (SwitchWord.Packet Origin.Received)) = refl
word_plain (Word.On (SwitchWord.Packet Origin.SentOut)) = refl
word_plain (Word.On (SwitchWord.Write Write.Add)) = refl
word_plain (Word.On (SwitchWord.Write Write.AddChecked)) = refl
word_plain (Word.On (SwitchWord.Write Write.ModifyStrict)) = refl
word_plain (Word.On (SwitchWord.Write Write.Modify)) = refl
word_plain (Word.On SwitchWord.DeleteStrict) = refl
word_plain (Word.On SwitchWord.Delete) = refl

priority_plain : (p : Option ℕ) → newlines (priority_text p) ≡ 0
unfolding newlines
priority_plain None = refl
priority_plain (Some n) = number_plain n

-- fields without an LF, side by side
abbrev AllPlain : List (List ℕ) → Type 0
AllPlain [] = Unit {0}
AllPlain (f ∷ fs) = (newlines f ≡ 0) × AllPlain fs

beside_plain : (fs : List (List ℕ)) → AllPlain fs → newlines (beside fs) ≡ 0
unfolding newlines
beside_plain [] h = refl
beside_plain (f ∷ fs) h = both_plain f (beside fs) h.0 (beside_plain fs h.1)

pub pair_plain : (l : PairLine) → newlines (pair_text l) ≡ 0
unfolding pair_text pair_fields
pair_plain l =
    beside_plain (pair_fields l) (
      right_plain 3 _ (number_plain l.lower.event),
      (
        blanks_plain 1,
        (
          right_plain 3 _ (number_plain l.higher.event),
          (
            blanks_plain 1,
            (
              right_plain 2 _ (number_plain l.switch),
              (
                blanks_plain 1,
                (
                  left_plain 5 _ (word_plain l.lower.word),
                  (
                    left_plain 5 _ (word_plain l.higher.word),
                    (
                      right_plain 5 _ (priority_plain l.lower.priority),
                      (
                        blanks_plain 1,
                        (right_plain 5 _ (priority_plain l.higher.priority), (blanks_plain 28, tt)),
                      ),
                    ),
                  ),
                ),
              ),
            ),
          ),
        ),
      ),
    )
