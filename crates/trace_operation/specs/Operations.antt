-- Document 01, "Trace text": for all but `oth` then `sw` (0 to 15); for `pkt` and `pout` port vlan src dst proto sport dport; for
-- writes prio, those seven, act (`dels` has no act; `deln` neither prio nor act).
use Rattle.std.specs.Prelude.{Bool, true, List, [], ◌++◌, ℕ, ◌≤◌, Some}
use Rattle.basics.specs.Text.{bytes}
use Rattle.text_numbers.specs.Reading.{Reader, and_then, mapped, keyed}
use Rattle.text_numbers.specs.Number.{read_number}
use Rattle.text_numbers.specs.Print.{print_number}
use Rattle.flow.specs.Matches.{clear, PacketInRange}
use Rattle.flow_table.specs.Carried.{carried_of}
use Rattle.text_fields.specs.Print.{print_match, print_packet, print_key, print_entry}
use Rattle.text_fields.specs.Read.{read_match, read_packet, read_key, read_entry}
use Rattle.text_fields.specs.Written.{clear_key, clear_entry, MatchWritten, KeyWritten, EntryWritten}
use Rattle.trace_words.specs.Words.{write_of}
use Rattle.trace_operation.specs.Types.{TableOperation, Operation, Carried, Word, SwitchWord}

-- ---- printing
abbrev pub print_carried : Carried → List ℕ
print_carried (Carried.Packet p) = print_packet p
print_carried (Carried.Entry e) = print_entry e
print_carried (Carried.Key k) = print_key k
print_carried (Carried.Match m) = print_match m

abbrev pub print_switch : ℕ → List ℕ
print_switch w = bytes " sw=" ++ print_number w

-- for all but `oth` the switch, and then the operation's own fields
unfoldable pub print_operation : Operation → List ℕ
print_operation Operation.Other = []
print_operation (Operation.Barrier w) = print_switch w
print_operation (Operation.Message w) = print_switch w
print_operation (Operation.Table w o) = print_switch w ++ print_carried (carried_of o)

-- ---- reading
-- a switch: 0 to 15
unfoldable pub read_switch : Reader ℕ
read_switch = keyed (bytes " sw=") (read_number 15)

-- the operation of a word on switch w, with its own fields
unfoldable pub read_on : SwitchWord → ℕ → Reader Operation
read_on SwitchWord.Barrier w s at = Some (Operation.Barrier w, at)
read_on SwitchWord.Message w s at = Some (Operation.Message w, at)
read_on (SwitchWord.Packet g) w s at = mapped (λ p. Operation.Table w (TableOperation.Packet g p)) read_packet s at
read_on (SwitchWord.Write a) w s at = mapped (λ e. Operation.Table w (write_of a e)) read_entry s at
read_on SwitchWord.DeleteStrict w s at = mapped (λ k. Operation.Table w (TableOperation.DeleteStrict k)) read_key s at
read_on SwitchWord.Delete w s at = mapped (λ m. Operation.Table w (TableOperation.Delete m)) read_match s at

-- the rest of the line of an operation, by its word: for all but `oth` the switch, and then its own fields
unfoldable pub read_operation : Word → Reader Operation
read_operation Word.Other s at = Some (Operation.Other, at)
read_operation (Word.On u) s at = and_then read_switch (read_on u) s at

-- ---- what a line can say: a prefix as written may have an address bit past its length
abbrev pub CarriedWritten : Carried → Type 0
CarriedWritten (Carried.Packet p) = PacketInRange p
CarriedWritten (Carried.Entry e) = EntryWritten e
CarriedWritten (Carried.Key k) = KeyWritten k
CarriedWritten (Carried.Match m) = MatchWritten m

-- a switch is 0 to 15
abbrev pub OperationWritten : Operation → Type 0
OperationWritten Operation.Other = Unit {0}
OperationWritten (Operation.Barrier w) = w ≤ 15
OperationWritten (Operation.Message w) = w ≤ 15
OperationWritten (Operation.Table w o) = (w ≤ 15) × CarriedWritten (carried_of o)

-- ---- no address bit stands past its prefix: else refusal 6
abbrev pub clear_carried : Carried → Bool
clear_carried (Carried.Packet p) = true
clear_carried (Carried.Entry e) = clear_entry e
clear_carried (Carried.Key k) = clear_key k
clear_carried (Carried.Match m) = clear m

abbrev pub clear_operation : Operation → Bool
clear_operation Operation.Other = true
clear_operation (Operation.Barrier w) = true
clear_operation (Operation.Message w) = true
clear_operation (Operation.Table w o) = clear_carried (carried_of o)
