-- Inner: of each pair of events one verdict.
use Rattle.std.specs.Prelude.{Bool, false, ◌&&◌, cond, eqb}
use Rattle.flow_table.specs.FlowTable.{effect_of}
use Rattle.flow_table.specs.Switches.{switch_of, uses_table}
use Rattle.commuting.specs.Commuting.{commutes}
use Rattle.commuting.specs.InnerFootprints.{footprint_of, footprints_commute}
use Rattle.list_verdicts.specs.Kinds.{paired}
use Rattle.list_verdicts.specs.Types.{Operation, Effect, Verdict, TableUse}

-- the verdict on two operations, where h says whether the first event happens before the second
unfoldable pub verdict_of : Operation → Operation → Bool → Verdict
verdict_of o p h = cond (paired o p) (cond h Verdict.Ordered (cond (commutes (effect_of o) (effect_of p)) Verdict.Commuting Verdict.Listed)) Verdict.Unpaired

-- ---- the same by what an event is to the list
unfoldable pub table_use : Operation → TableUse
table_use o = record { uses = uses_table o; switch = switch_of o; footprint = footprint_of (effect_of o) }

-- of no event
abbrev pub no_use : TableUse
no_use = record { uses = false; switch = 0; footprint = footprint_of Effect.Idle }

unfoldable pub uses_paired : TableUse → TableUse → Bool
uses_paired a b = a.uses && (b.uses && eqb a.switch b.switch)

unfoldable pub verdict_by : TableUse → TableUse → Bool → Verdict
verdict_by a b h = cond (uses_paired a b) (cond h Verdict.Ordered (cond (footprints_commute a.footprint b.footprint) Verdict.Commuting Verdict.Listed)) Verdict.Unpaired
