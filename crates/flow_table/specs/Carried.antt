-- Document 01, "Trace text": `pkt` and `pout` have the seven fields; writes have prio, those seven, act (`dels` has no act; `deln`
-- neither prio nor act).
use Rattle.flow.specs.Matches.{MatchInRange, PacketInRange}
use Rattle.flow.specs.Entries.{KeyInRange, ActionInRange}
use Rattle.flow_table.specs.Types.{TableOperation, Carried}

-- what a table operation carries
abbrev pub carried_of : TableOperation → Carried
carried_of (TableOperation.Packet g p) = Carried.Packet p
carried_of (TableOperation.Add e) = Carried.Entry e
carried_of (TableOperation.AddChecked e) = Carried.Entry e
carried_of (TableOperation.ModifyStrict e) = Carried.Entry e
carried_of (TableOperation.Modify e) = Carried.Entry e
carried_of (TableOperation.DeleteStrict k) = Carried.Key k
carried_of (TableOperation.Delete m) = Carried.Match m

-- the ranges of document 01
abbrev pub CarriedInRange : Carried → Type 0
CarriedInRange (Carried.Packet p) = PacketInRange p
CarriedInRange (Carried.Entry e) = KeyInRange e.key × ActionInRange e.action
CarriedInRange (Carried.Key k) = KeyInRange k
CarriedInRange (Carried.Match m) = MatchInRange m
