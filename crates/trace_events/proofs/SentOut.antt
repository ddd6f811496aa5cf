-- For barriers a `pout` is a `msg`, and no barrier orders a `pkt`. Assumes nothing.
use Prim.Native.Nat.{ℕ}
use mathlib.Core.Path.{◌≡◌, refl, ◌∙◌}
use mathlib.Core.Bool.{false, ◌&&◌}
use lib.Dec.{eqb}
use Rattle.flow_table.specs.Switches.{switch_of}
use Rattle.basics.proofs.Booleans.{and-true, and_false_right}
use Rattle.trace_events.specs.Types.{Packet, Origin, TableOperation, Operation}
use Rattle.trace_events.specs.Events.{is_barrier, barrier_orders}
use Rattle.trace_events.specs.Precedence.{barrier_step}

-- for barriers a packet sent out is a `msg` of its switch
module _ (o : Operation) (w : ℕ) (p : Packet) where
  pub pout_as_msg_first : barrier_step (Operation.Table w (TableOperation.Packet Origin.SentOut p)) o ≡ barrier_step (Operation.Message w) o
  unfolding barrier_step
  pout_as_msg_first = refl

  pub pout_as_msg_second : barrier_step o (Operation.Table w (TableOperation.Packet Origin.SentOut p)) ≡ barrier_step o (Operation.Message w)
  unfolding barrier_step
  pout_as_msg_second = refl

-- a barrier and a packet sent out: a step exactly where they are of one switch, whichever comes first
module _ (v w : ℕ) (p : Packet) where
  pub barrier_orders_pout : barrier_step (Operation.Barrier v) (Operation.Table w (TableOperation.Packet Origin.SentOut p)) ≡ eqb v w
  unfolding barrier_step
  barrier_orders_pout = and-true _ ∙ and-true _ ∙ and-true _

  pub pout_before_barrier : barrier_step (Operation.Table w (TableOperation.Packet Origin.SentOut p)) (Operation.Barrier v) ≡ eqb w v
  unfolding barrier_step
  pout_before_barrier = and-true _ ∙ and-true _ ∙ and-true _

-- no step begins or ends at a packet received
module _ (o : Operation) (w : ℕ) (p : Packet) where
  pub barrier_passes_pkt : barrier_step o (Operation.Table w (TableOperation.Packet Origin.Received p)) ≡ false
  unfolding barrier_step
  barrier_passes_pkt = rw (and_false_right (eqb (switch_of o) w && barrier_orders o) refl) refl

  pub pkt_passes_barrier : barrier_step (Operation.Table w (TableOperation.Packet Origin.Received p)) o ≡ false
  unfolding barrier_step
  pkt_passes_barrier = rw (and_false_right (eqb w (switch_of o)) refl) refl

-- nor where neither is a barrier: two packets sent out, or one and a write
pub no_bar_no_step : (o p : Operation) → is_barrier o ≡ false → is_barrier p ≡ false → barrier_step o p ≡ false
unfolding barrier_step
no_bar_no_step o p e f = and_false_right (eqb (switch_of o) (switch_of p) && barrier_orders o && barrier_orders p) (rw (e, f) refl)
