-- Document 01, "Matches" and "Flow table": the ranges of what a text can say. A prefix as written may have an address bit
-- past its length: such a line is refused for that, and no other way.
use Rattle.std.specs.Prelude.{◌≤◌, ◌<◌, ◌^◌, Bool}
use Rattle.flow.specs.Matches.{ExactInRange, clear}
use Rattle.flow.specs.Entries.{ActionInRange}
use Rattle.text_fields.specs.Types.{Prefix, Match, Key, Entry}

-- an address of 32 bits, a length of 0 to 32
pub record PrefixWritten (p : Prefix) : Type 0 where
  pub value : p.value < 2 ^ 32
  pub length : p.length ≤ 32

pub record MatchWritten (m : Match) : Type 0 where
  pub port : ExactInRange 65536 m.port
  pub vlan : ExactInRange 4096 m.vlan
  pub src : PrefixWritten m.src
  pub dst : PrefixWritten m.dst
  pub proto : ExactInRange 256 m.proto
  pub sport : ExactInRange 65536 m.sport
  pub dport : ExactInRange 65536 m.dport

pub record KeyWritten (k : Key) : Type 0 where
  pub priority : k.priority < 65536
  pub pattern : MatchWritten k.pattern

pub record EntryWritten (e : Entry) : Type 0 where
  pub key : KeyWritten e.key
  pub action : ActionInRange e.action

-- no address bit stands past its prefix's length
abbrev pub clear_key : Key → Bool
clear_key k = clear k.pattern

abbrev pub clear_entry : Entry → Bool
clear_entry e = clear_key e.key
