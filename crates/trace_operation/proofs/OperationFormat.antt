-- The rest of a line, behind its head: for each word what stands behind the switch has a format, and so have the word's operations.
use Prim.Native.Nat.{ℕ, ◌≤◌}
use mathlib.Core.List.{List, [], ◌++◌, append-nil}
use Rattle.std.specs.Prelude.{Option, None, Some}
use mathlib.Core.Path.{◌≡◌, refl, sym, ◌∙◌, ap, subst}
use native.Mathlib.Nat.{add-zero}
use native.Mathlib.Omega.{arith}
use Rattle.basics.specs.Text.{bytes}
use Rattle.text_numbers.specs.Reading.{Reader, on_read, and_then, mapped, both}
use Rattle.text_numbers.specs.Format.{Follows, Format}
use Rattle.text_numbers.proofs.Readers.{same_place, twice}
use Rattle.text_numbers.proofs.Numbers.{number_format}
use Rattle.text_numbers.proofs.Format.{space_ends, keyed_format, both_format, made_format}
use Rattle.flow.specs.Matches.{PacketInRange}
use Rattle.flow_table.specs.Carried.{carried_of}
use Rattle.text_fields.specs.Print.{print_match, print_packet, print_key, print_entry}
use Rattle.text_fields.specs.Read.{read_match, read_packet, read_key, read_entry}
use Rattle.text_fields.specs.Written.{MatchWritten, KeyWritten, EntryWritten}
use Rattle.text_fields.proofs.MatchFormats.{match_follows, match_format, packet_follows, packet_format}
use Rattle.text_fields.proofs.EntryFormats.{key_follows, key_format, entry_follows, entry_format}
use Rattle.trace_words.specs.Words.{table_word, word_of, write_of}
use Rattle.trace_words.proofs.WordLaws.{by_word, write_word, write_carries}
use Rattle.trace_operation.specs.Types.{Match, Packet, Key, Entry, TableOperation, Operation, Word, SwitchWord}
use Rattle.trace_operation.specs.Operations.{print_switch, print_operation, read_switch, read_on, read_operation, CarriedWritten, OperationWritten}

-- ---- each word on a switch: what stands behind the switch, its format, and the operation that it makes
record Own (u : SwitchWord) : Type 1 where
  Value : Type 0
  ok : Value → Type 0
  print : Value → List ℕ
  read : Reader Value
  format : Format ok print read
  follows : Follows print
  make : ℕ → Value → Operation
  written : (w : ℕ) (x : Value) → w ≤ 15 → ok x → OperationWritten (make w x)
  word : (w : ℕ) (x : Value) → word_of (make w x) ≡ Word.On u

abbrev read_nothing : Reader (Unit {0})
read_nothing s at = Some (tt, at)

nothing_format : Format (λ (x : Unit {0}). Unit {0}) (λ x. []) read_nothing
nothing_format = record {
  reads = λ x o s at rest e h. rw add-zero;
  only = λ s at x n e. let y : at ≡ n = same_place e in (tt, rw y refl, rw (add-zero, y) refl);
}

abbrev own : (u : SwitchWord) → Own u
own SwitchWord.Barrier = record {
  Value = Unit {0};
  ok = λ x. Unit {0};
  print = λ x. [];
  read = read_nothing;
  format = nothing_format;
  follows = λ x rest e. e;
  make = λ w x. Operation.Barrier w;
  written = λ w x b o. b;
  word = λ w x. refl;
}
own SwitchWord.Message = record {
  Value = Unit {0};
  ok = λ x. Unit {0};
  print = λ x. [];
  read = read_nothing;
  format = nothing_format;
  follows = λ x rest e. e;
  make = λ w x. Operation.Message w;
  written = λ w x b o. b;
  word = λ w x. refl;
}
own (SwitchWord.Packet g) = record {
  Value = Packet;
  ok = PacketInRange;
  print = print_packet;
  read = read_packet;
  format = packet_format;
  follows = packet_follows;
  make = λ w p. Operation.Table w (TableOperation.Packet g p);
  written = λ w p b o. (b, o);
  word = λ w p. refl;
}
own (SwitchWord.Write a) = record {
  Value = Entry;
  ok = EntryWritten;
  print = print_entry;
  read = read_entry;
  format = entry_format;
  follows = entry_follows;
  make = λ w e. Operation.Table w (write_of a e);
  written = λ w e b o. (b, rw (write_carries a e) o);
  word = λ w e. ap Word.On (write_word a e);
}
own SwitchWord.DeleteStrict = record {
  Value = Key;
  ok = KeyWritten;
  print = print_key;
  read = read_key;
  format = key_format;
  follows = key_follows;
  make = λ w k. Operation.Table w (TableOperation.DeleteStrict k);
  written = λ w k b o. (b, o);
  word = λ w k. refl;
}
own SwitchWord.Delete = record {
  Value = Match;
  ok = MatchWritten;
  print = print_match;
  read = read_match;
  format = match_format;
  follows = match_follows;
  make = λ w m. Operation.Table w (TableOperation.Delete m);
  written = λ w m b o. (b, o);
  word = λ w m. refl;
}

own_reads : (u : SwitchWord) (w : ℕ) (s : List ℕ) (at : ℕ) → read_on u w s at ≡ mapped ((own u).make w) (own u).read s at
unfolding read_on mapped
own_reads SwitchWord.Barrier w s at = refl
own_reads SwitchWord.Message w s at = refl
own_reads (SwitchWord.Packet g) w s at = refl
own_reads (SwitchWord.Write a) w s at = refl
own_reads SwitchWord.DeleteStrict w s at = refl
own_reads SwitchWord.Delete w s at = refl

own_prints : (u : SwitchWord) (w : ℕ) (x : (own u).Value) → print_operation ((own u).make w x) ≡ print_switch w ++ (own u).print x
unfolding print_operation
own_prints SwitchWord.Barrier w x = sym (append-nil (print_switch w))
own_prints SwitchWord.Message w x = sym (append-nil (print_switch w))
own_prints (SwitchWord.Packet g) w p = refl
own_prints (SwitchWord.Write a) w e = rw (write_carries a e) refl
own_prints SwitchWord.DeleteStrict w k = refl
own_prints SwitchWord.Delete w m = refl

-- ---- each operation is made of what stands behind the switch of its word
abbrev Behind : (u : SwitchWord) → ℕ × (own u).Value → Type 0
Behind u p = (p.0 ≤ 15) × (own u).ok p.1

abbrev makes : (u : SwitchWord) → ℕ × (own u).Value → Operation
makes u p = (own u).make p.0 p.1

abbrev Made : Word → Operation → Type 0
Made Word.Other o = Operation.Other ≡ o
Made (Word.On u) o = (p : ℕ × (own u).Value) × Behind u p × (makes u p ≡ o)

made : (o : Operation) → OperationWritten o → Made (word_of o) o
made Operation.Other r = refl
made (Operation.Barrier w) r = ((w, tt), (r, tt), refl)
made (Operation.Message w) r = ((w, tt), (r, tt), refl)
made (Operation.Table w o) r =
    by_word (λ o. CarriedWritten (carried_of o) → Made (Word.On (table_word o)) (Operation.Table w o))
    (λ g p q. ((w, p), (r.0, q), refl))
    (λ a e q. rw (write_word a e) ((w, e), (r.0, rw (write_carries a e) at q), refl))
    (λ k q. ((w, k), (r.0, q), refl))
    (λ m q. ((w, m), (r.0, q), refl)) o r.1

-- ---- the operations of a word
switch_format : Format (λ w. w ≤ 15) print_switch read_switch
unfolding read_switch
switch_format = keyed_format (bytes " sw=") (number_format 15 (omega arith))

-- a switch, and then what stands behind it
behind_switch : (u : SwitchWord) (s : List ℕ) (at : ℕ) → and_then read_switch (read_on u) s at ≡ mapped (makes u) (both read_switch (own u).read) s at
unfolding and_then mapped both
behind_switch u s at = go (read_switch s at)
  where
    go : (r : Option (ℕ × ℕ)) → on_read r (λ w n. read_on u w s n)
        ≡ on_read (on_read r (λ w n. on_read ((own u).read s n) (λ a m. Some ((w, a), m)))) (λ p m. Some (makes u p, m))
    go None = refl
    go (Some r) = own_reads u r.0 s r.1 ∙ twice (makes u) (λ a. (r.0, a)) ((own u).make r.0) (λ a. refl) ((own u).read s r.1)

pub operation_format : (v : Word) → Format (λ o. OperationWritten o × (word_of o ≡ v)) print_operation (read_operation v)
unfolding read_operation print_operation mapped
operation_format Word.Other =
    made_format print_operation (λ x. Operation.Other) (λ x. refl) (λ s at. refl) (λ x o. (tt, refl))
    (λ o (r, q). (tt, tt, subst (λ (v : Word). Made v o) q (made o r))) nothing_format
operation_format (Word.On u) =
    made_format print_operation (makes u) (λ p. own_prints u p.0 p.1) (behind_switch u)
    (λ p (b, o). ((own u).written p.0 p.1 b o, (own u).word p.0 p.1))
    (λ o (r, q). subst (λ (v : Word). Made v o) q (made o r))
    (both_format (own u).follows switch_format (own u).format)

pub operation_follows : Follows print_operation
unfolding print_operation
operation_follows Operation.Other rest e = e
operation_follows (Operation.Barrier w) rest e = space_ends _
operation_follows (Operation.Message w) rest e = space_ends _
operation_follows (Operation.Table w o) rest e = space_ends _
