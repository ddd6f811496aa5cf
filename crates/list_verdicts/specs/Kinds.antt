-- Document 01, "The list": which pairs of events are counted, and which of them are ordered, commuting or listed.
use Rattle.std.specs.Prelude.{Bool, ◌&&◌, not, eqb}
use Rattle.flow_table.specs.FlowTable.{effect_of}
use Rattle.flow_table.specs.Switches.{switch_of, uses_table}
use Rattle.commuting.specs.Commuting.{commutes}
use Rattle.list_verdicts.specs.Types.{Operation}

-- two table events of one switch
unfoldable pub paired : Operation → Operation → Bool
paired o p = uses_table o && (uses_table p && eqb (switch_of o) (switch_of p))

-- the four things that are counted
pub data Kind : Type 0 where
  pairs ordered commuting listed : Kind

-- two operations are of a kind, where h says whether the first event happens before the second
abbrev pub is_kind : Kind → Operation → Operation → Bool → Bool
is_kind pairs o p h = paired o p
is_kind ordered o p h = paired o p && h
is_kind commuting o p h = paired o p && (not h && commutes (effect_of o) (effect_of p))
is_kind listed o p h = paired o p && (not h && not (commutes (effect_of o) (effect_of p)))
