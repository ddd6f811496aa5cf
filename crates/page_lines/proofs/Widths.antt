-- What a line says is no wider than its columns. Assumes nothing.
use Prim.Native.Nat.{ℕ, ◌<◌, ◌≤◌}
use native.Mathlib.Omega.{arith}
use Rattle.std.specs.Prelude.{Option, None, Some}
use lib.ListN.{length}
use Rattle.text_numbers.specs.Print.{print_number}
use Rattle.text_numbers.proofs.Print.{print_short}
use Rattle.trace_words.specs.Words.{word_text}
use Rattle.page_lines.specs.Types.{Origin, Word, SwitchWord, Write}
use Rattle.page_lines.specs.PairLines.{priority_text}
use Rattle.page_lines.specs.Inner.{PriorityInRange}

-- a word has at most four letters
pub word_short : (w : Word) → length (word_text w) ≤ 4
word_short Word.Other = omega arith
word_short (Word.On SwitchWord.Barrier) = omega arith
word_short (Word.On SwitchWord.Message) = omega arith
word_short (Word.On (SwitchWord.Packet Origin.Received)) = omega arith
word_short (Word.On (SwitchWord.Packet Origin.SentOut)) = omega arith
word_short (Word.On (SwitchWord.Write Write.Add)) = omega arith
word_short (Word.On (SwitchWord.Write Write.AddChecked)) = omega arith
word_short (Word.On (SwitchWord.Write Write.ModifyStrict)) = omega arith
word_short (Word.On (SwitchWord.Write Write.Modify)) = omega arith
word_short (Word.On SwitchWord.DeleteStrict) = omega arith
word_short (Word.On SwitchWord.Delete) = omega arith

pub word_fits : (w : Word) → length (word_text w) ≤ 5
word_fits w = omega (arith, word_short w)

pub priority_fits : (p : Option ℕ) → PriorityInRange p → length (priority_text p) ≤ 5
priority_fits None h = omega arith
priority_fits (Some n) h = print_short 4 n (omega arith)

pub event_fits : (i : ℕ) → i < 256 → length (print_number i) ≤ 3
event_fits i h = print_short 2 i (omega arith)

pub switch_fits : (w : ℕ) → w < 16 → length (print_number w) ≤ 2
switch_fits w h = print_short 1 w (omega arith)
