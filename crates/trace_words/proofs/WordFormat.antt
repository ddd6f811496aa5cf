-- The eleven words: a reader that tries one after the other, and its format. Assumes nothing.
use mathlib.Core.Path.{◌≡◌, refl, ◌∙◌}
use mathlib.Core.Bool.{Bool, true, false, cond}
use mathlib.Core.List.{List, [], ◌∷◌, ◌++◌}
use Rattle.std.specs.Prelude.{Option, None, Some, MatchOption}
use Prim.Native.Nat.{ℕ, ◌+◌}
use lib.ListN.{length, drop}
use lib.Seq.{drop-drop}
use Rattle.text_numbers.specs.Reading.{starts_with, word_or}
use Rattle.text_numbers.specs.Format.{Format}
use Rattle.text_numbers.proofs.Readers.{nothing, same_value, same_place, on_cond}
use Rattle.text_numbers.proofs.Keys.{starts_key}
use Rattle.trace_words.specs.Types.{Origin, Word, SwitchWord, Write}
use Rattle.trace_words.specs.Words.{print_word, read_one_of, read_word}

-- ---- one word after the other: where none was read yet, one of the others is
abbrev pub or_one_of : Option (Word × ℕ) → List Word → List ℕ → ℕ → Option (Word × ℕ)
or_one_of None ws s at = read_one_of ws s at
or_one_of (Some x) ws s at = Some x

module _ (w : Word) (ws : List Word) (s : List ℕ) (at : ℕ) where
  pub or_here : {r : Option (Word × ℕ)} → r ≡ word_or (print_word w) w (λ t n. None) s at → read_one_of (w ∷ ws) s at ≡ or_one_of r ws s at
  unfolding read_one_of word_or
  or_here e = rw e (by_test (starts_with (print_word w) (drop at s)))
    where
      by_test : (t : Bool) → cond t (Some (w, at + length (print_word w))) (read_one_of ws s at) ≡ or_one_of (cond t (Some (w, at + length (print_word w))) None) ws s at
      by_test true = refl
      by_test false = refl

  -- P is what is known of the reading of one more word
  pub or_next : {P : Type 0} (r : Option (Word × ℕ)) {q x : Option (Word × ℕ)} → MatchOption r P (λ y. q ≡ Some y) → (P → q ≡ word_or (print_word w) w (λ t n. None) s at)
      → x ≡ or_one_of r (w ∷ ws) s at → x ≡ or_one_of q ws s at
  or_next None m read e = e ∙ or_here (read m)
  or_next (Some y) m read e = rw m e

-- no word is left
pub or_last : (r : Option (Word × ℕ)) (s : List ℕ) (at : ℕ) → or_one_of r [] s at ≡ r
unfolding read_one_of
or_last None s at = refl
or_last (Some x) s at = refl

-- each word's text reads as the word
word_reads : (w : Word) (s : List ℕ) (at : ℕ) (rest : List ℕ) → drop at s ≡ print_word w ++ rest → read_word s at ≡ Some (w, at + length (print_word w))
unfolding read_word read_one_of word_or starts_with
word_reads Word.Other s at rest h = rw h refl
word_reads (Word.On SwitchWord.Barrier) s at rest h = rw h refl
word_reads (Word.On SwitchWord.Message) s at rest h = rw h refl
word_reads (Word.On (SwitchWord.Packet Origin.Received)) s at rest h = rw h refl
word_reads (Word.On (SwitchWord.Packet Origin.SentOut)) s at rest h = rw h refl
word_reads (Word.On (SwitchWord.Write Write.Add)) s at rest h = rw h refl
word_reads (Word.On (SwitchWord.Write Write.AddChecked)) s at rest h = rw h refl
word_reads (Word.On (SwitchWord.Write Write.ModifyStrict)) s at rest h = rw h refl
word_reads (Word.On (SwitchWord.Write Write.Modify)) s at rest h = rw h refl
word_reads (Word.On SwitchWord.DeleteStrict) s at rest h = rw h refl
word_reads (Word.On SwitchWord.Delete) s at rest h = rw h refl

-- and what reads as a word is its text
one_only : (ws : List Word) (s : List ℕ) (at : ℕ) (w : Word) (n : ℕ) → read_one_of ws s at ≡ Some (w, n) → (drop at s ≡ print_word w ++ drop n s) × (n ≡ at + length (print_word w))
unfolding read_one_of word_or
one_only [] s at w n e = nothing e
one_only (v ∷ ws) s at w n e = go (one_only ws s at w n) e
  where
    go : (read_one_of ws s at ≡ Some (w, n) → (drop at s ≡ print_word w ++ drop n s) × (n ≡ at + length (print_word w)))
        → cond (starts_with (print_word v) (drop at s)) (Some (v, at + length (print_word v))) (read_one_of ws s at) ≡ Some (w, n)
        → (drop at s ≡ print_word w ++ drop n s) × (n ≡ at + length (print_word w))
    go ih = on_cond (starts_with (print_word v) (drop at s))
        (λ t p. let x : v ≡ w = same_value p in let y : at + length (print_word v) ≡ n = same_place p in
        rw (← x, ← y) (starts_key (print_word v) (drop at s) t ∙ rw drop-drop refl, refl))
        (λ t p. ih p)

pub word_format : Format (λ w. Unit {0}) print_word read_word
unfolding read_word
word_format = record {
  reads = λ w o s at rest e h. word_reads w s at rest h;
  only = λ s at w n e. let r = one_only _ s at w n e in (tt, r.0, r.1);
}
