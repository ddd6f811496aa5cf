-- Document 01, "Trace text": the words of `do`.
use Rattle.std.specs.Prelude.{List, [], ◌∷◌, ◌++◌, map, ℕ, None}
use Rattle.basics.specs.Text.{bytes}
use Rattle.text_numbers.specs.Reading.{Reader, word_or}
use Rattle.trace_words.specs.Types.{Entry, Origin, TableOperation, Operation, Word, SwitchWord, Write}

-- ---- the words of the operations
abbrev pub table_word : TableOperation → SwitchWord
table_word (TableOperation.Packet g p) = SwitchWord.Packet g
table_word (TableOperation.Add e) = SwitchWord.Write Write.Add
table_word (TableOperation.AddChecked e) = SwitchWord.Write Write.AddChecked
table_word (TableOperation.ModifyStrict e) = SwitchWord.Write Write.ModifyStrict
table_word (TableOperation.Modify e) = SwitchWord.Write Write.Modify
table_word (TableOperation.DeleteStrict k) = SwitchWord.DeleteStrict
table_word (TableOperation.Delete m) = SwitchWord.Delete

abbrev pub word_of : Operation → Word
word_of Operation.Other = Word.Other
word_of (Operation.Barrier w) = Word.On SwitchWord.Barrier
word_of (Operation.Message w) = Word.On SwitchWord.Message
word_of (Operation.Table w o) = Word.On (table_word o)

-- the operations of the four words with an entry
abbrev pub write_of : Write → Entry → TableOperation
write_of Write.Add e = TableOperation.Add e
write_of Write.AddChecked e = TableOperation.AddChecked e
write_of Write.ModifyStrict e = TableOperation.ModifyStrict e
write_of Write.Modify e = TableOperation.Modify e

-- ---- their texts
abbrev pub switch_word_text : SwitchWord → List ℕ
switch_word_text SwitchWord.Barrier = bytes "bar"
switch_word_text SwitchWord.Message = bytes "msg"
switch_word_text (SwitchWord.Packet Origin.Received) = bytes "pkt"
switch_word_text (SwitchWord.Packet Origin.SentOut) = bytes "pout"
switch_word_text (SwitchWord.Write Write.Add) = bytes "add"
switch_word_text (SwitchWord.Write Write.AddChecked) = bytes "addc"
switch_word_text (SwitchWord.Write Write.ModifyStrict) = bytes "mods"
switch_word_text (SwitchWord.Write Write.Modify) = bytes "modn"
switch_word_text SwitchWord.DeleteStrict = bytes "dels"
switch_word_text SwitchWord.Delete = bytes "deln"

abbrev pub word_text : Word → List ℕ
word_text Word.Other = bytes "oth"
word_text (Word.On u) = switch_word_text u

-- a word ends with the space behind it
abbrev pub print_word : Word → List ℕ
print_word w = word_text w ++ bytes " "

-- the first of some words whose text stands at the place
unfoldable pub read_one_of : List Word → Reader Word
read_one_of [] = λ s at. None
read_one_of (w ∷ ws) = word_or (print_word w) w (read_one_of ws)

abbrev pub write_words : List SwitchWord
write_words = SwitchWord.Write Write.Add ∷ SwitchWord.Write Write.AddChecked ∷ SwitchWord.Write Write.ModifyStrict ∷ SwitchWord.Write Write.Modify ∷ SwitchWord.DeleteStrict ∷ SwitchWord.Delete ∷ []

abbrev pub all_words : List Word
all_words = Word.Other ∷ map Word.On (SwitchWord.Barrier ∷ SwitchWord.Message ∷ SwitchWord.Packet Origin.Received ∷ SwitchWord.Packet Origin.SentOut ∷ write_words)

unfoldable pub read_word : Reader Word
read_word = read_one_of all_words
