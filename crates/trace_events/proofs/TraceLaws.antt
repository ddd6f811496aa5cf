-- The events of a trace as its array holds them. Assumes nothing.
use Prim.Native.Nat.{ℕ, ◌<◌, ◌≤◌}
use mathlib.Core.List.{[]}
use mathlib.Core.Path.{◌≡◌, refl}
use lib.ListN.{length, get_or, length-replicate}
use lib.Seq.{length-take-le, get_or-take}
use Rattle.trace_events.specs.Types.{Trace}
use Rattle.trace_events.specs.Events.{events_of, no_trace, no_event, event_at}

pub length_events : (t : Trace) → t.len ≤ length t.events → length (events_of t) ≡ t.len
unfolding events_of
length_events t h = length-take-le t.len t.events h

pub event_at_lem : (t : Trace) (i : ℕ) → i < t.len → event_at (events_of t) i ≡ get_or t.events i no_event
unfolding events_of
event_at_lem t i h = get_or-take t.len t.events i no_event h

-- a trace before its first event
module _ (t : Trace) (e : t ≡ no_trace) where
  pub none_yet : (events_of t ≡ []) × (t.len ≡ 0)
  unfolding events_of no_trace
  none_yet = rw e (refl, refl)

  pub room_yet : length t.events ≡ 256
  unfolding no_trace
  room_yet = rw e (length-replicate 256 no_event)
