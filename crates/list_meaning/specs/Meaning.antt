-- Document 01, "The list", in its words and without a test: which two events are a pair, and which pairs are ordered, commuting or
-- listed. (`kind_iff`, proofs/OfKind.antt, says that the pairs of a kind are these and no others.)
use Rattle.std.specs.Prelude.{◌≡◌, List, ◌⊎◌, ℕ, ◌<◌, length}
use Rattle.flow_table.specs.FlowTable.{Table, Sorted, TableInRange, table_effect}
use Rattle.commuting.specs.Commuting.{Agree, Commute}
use Rattle.trace_events.specs.Events.{event_at}
use Rattle.happens_before.specs.Causality.{direct, Chain}
use Rattle.list_verdicts.specs.Kinds.{Kind, pairs, ordered, commuting, listed}
use Rattle.list_meaning.specs.Types.{TableOperation, Operation, Effect, Event}

-- two table events of one switch, i the lower
pub record OneTable (es : List Event) (i j : ℕ) : Type 0 where
  pub lower : i < j
  pub higher : j < length es
  pub switch : ℕ
  pub first : TableOperation
  pub second : TableOperation
  pub lower_is : (event_at es i).operation ≡ Operation.Table switch first
  pub higher_is : (event_at es j).operation ≡ Operation.Table switch second

-- one happens before the other
abbrev pub Ordered : ℕ → List Event → ℕ → ℕ → Type 0
Ordered delay es i j = Chain (direct delay es) i j ⊎ Chain (direct delay es) j i

-- on some table, in order and in range, the two orders end or answer differently
pub record Differ (v w : Effect) : Type 0 where
  pub table : Table
  pub sorted : Sorted table
  pub in_range : TableInRange table
  pub apart : Agree v w table → ⊥

-- pairs: all two table events of one switch; ordered: one happens before the other; commuting: not ordered, and commute; listed: not
-- ordered, and some table tells the two orders apart
abbrev pub OfKind : ℕ → Kind → List Event → ℕ → ℕ → Type 0
OfKind delay pairs es i j = OneTable es i j
OfKind delay ordered es i j = OneTable es i j × Ordered delay es i j
OfKind delay commuting es i j = (p : OneTable es i j) × (Ordered delay es i j → ⊥) × Commute (table_effect p.first) (table_effect p.second)
OfKind delay listed es i j = (p : OneTable es i j) × (Ordered delay es i j → ⊥) × Differ (table_effect p.first) (table_effect p.second)
