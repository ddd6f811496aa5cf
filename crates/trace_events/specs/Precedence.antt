-- Document 01, "Happens-before": the token and the barrier step, from an event to one of a later line, as a test and in words.
use Rattle.std.specs.Prelude.{◌≡◌, ◌⊎◌, Bool, ◌&&◌, ◌||◌, ℕ, eqb}
use mathlib.Core.List.{Memᴰ}
use Rattle.flow_table.specs.Switches.{switch_of}
use Rattle.trace_events.specs.Types.{Key, Entry, Match, Packet, Origin, TableOperation, Operation, Head, Event}
use Rattle.trace_events.specs.Events.{tokens_of, is_barrier, barrier_orders}
use Rattle.basics.specs.Searches.{shares}

-- both on one switch, both among writes, `bar`, `msg` and `pout`, and one is `bar`
unfoldable pub barrier_step : Operation → Operation → Bool
barrier_step a b = eqb (switch_of a) (switch_of b) && barrier_orders a && barrier_orders b && (is_barrier a || is_barrier b)

-- a token that the line of head a puts out is taken in by that of head b
unfoldable pub token_step : Head → Head → Bool
token_step a b = shares (tokens_of a.outs) (tokens_of b.ins)

-- a, of an earlier line, directly precedes b by a token or a barrier
unfoldable pub line_step : Event → Event → Bool
line_step a b = token_step a.head b.head || barrier_step a.operation b.operation

-- ---- the same in words (proofs/Precedes.antt, `line_step_iff`)
-- a write: every table operation but a packet
pub data Write : TableOperation → Type 0 where
  add : {e : Entry} → Write (TableOperation.Add e)
  addc : {e : Entry} → Write (TableOperation.AddChecked e)
  mods : {e : Entry} → Write (TableOperation.ModifyStrict e)
  modn : {e : Entry} → Write (TableOperation.Modify e)
  dels : {k : Key} → Write (TableOperation.DeleteStrict k)
  deln : {m : Match} → Write (TableOperation.Delete m)

-- on switch w, and among writes, `bar`, `msg`, `pout`
pub data Among (w : ℕ) : Operation → Type 0 where
  write : {o : TableOperation} → Write o → Among w (Operation.Table w o)
  bar : Among w (Operation.Barrier w)
  msg : Among w (Operation.Message w)
  pout : {p : Packet} → Among w (Operation.Table w (TableOperation.Packet Origin.SentOut p))

-- both are on one switch, both are among writes, `bar`, `msg`, `pout`, and one is `bar`
pub record BarrierJoins (o p : Operation) : Type 0 where
  pub switch : ℕ
  pub first : Among switch o
  pub second : Among switch p
  pub one_is_bar : (o ≡ Operation.Barrier switch) ⊎ (p ≡ Operation.Barrier switch)

-- a token stands in the one line's `out` and in the other's `in`
pub record TokenPasses (a b : Head) : Type 0 where
  pub token : ℕ
  pub in_out : Memᴰ token (tokens_of a.outs)
  pub in_in : Memᴰ token (tokens_of b.ins)

-- event a directly precedes the later line b by a token or a barrier
abbrev pub LineSteps : Event → Event → Type 0
LineSteps a b = TokenPasses a.head b.head ⊎ BarrierJoins a.operation b.operation
