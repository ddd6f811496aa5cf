-- The words and their operations: each table operation is that of its word with what it carries.
use mathlib.Core.Path.{◌≡◌, refl}
use Rattle.flow_table.specs.Carried.{carried_of}
use Rattle.trace_words.specs.Types.{Packet, Entry, Key, Match, Origin, TableOperation, Carried, SwitchWord, Write}
use Rattle.trace_words.specs.Words.{table_word, write_of}

-- what holds of a packet, of each write that carries an entry and of both deletes holds of each table operation
pub by_word : (P : TableOperation → Type 0) → ((g : Origin) (p : Packet) → P (TableOperation.Packet g p)) → ((a : Write) (e : Entry) → P (write_of a e))
    → ((k : Key) → P (TableOperation.DeleteStrict k)) → ((m : Match) → P (TableOperation.Delete m)) → (o : TableOperation) → P o
by_word P p w k m (TableOperation.Packet g x) = p g x
by_word P p w k m (TableOperation.Add e) = w Write.Add e
by_word P p w k m (TableOperation.AddChecked e) = w Write.AddChecked e
by_word P p w k m (TableOperation.ModifyStrict e) = w Write.ModifyStrict e
by_word P p w k m (TableOperation.Modify e) = w Write.Modify e
by_word P p w k m (TableOperation.DeleteStrict x) = k x
by_word P p w k m (TableOperation.Delete x) = m x

pub write_word : (a : Write) (e : Entry) → table_word (write_of a e) ≡ SwitchWord.Write a
write_word Write.Add e = refl
write_word Write.AddChecked e = refl
write_word Write.ModifyStrict e = refl
write_word Write.Modify e = refl

pub write_carries : (a : Write) (e : Entry) → carried_of (write_of a e) ≡ Carried.Entry e
write_carries Write.Add e = refl
write_carries Write.AddChecked e = refl
write_carries Write.ModifyStrict e = refl
write_carries Write.Modify e = refl
