-- The sides of the events so far, as the pass over the events notes them. Assumes nothing.
use Prim.Native.Nat.{ℕ, ◌+◌, ◌<◌, ◌≤◌}
use native.Mathlib.Numerals.{add-one}
use mathlib.Core.Path.{◌≡◌, sym, ap₂, ◌∙◌}
use mathlib.Core.Bool.{Bool, true, false, or-false}
use mathlib.Core.List.{List}
use lib.ListN.{length, get_or}
use Rattle.trace_events.specs.Events.{events_of, no_event}
use Rattle.trace_events.specs.Precedence.{token_step}
use Rattle.trace_events.specs.Inner.{no_side, side_of, side_step, may_pass_to}
use Rattle.trace_events.proofs.SideLaws.{by_side, by_token, by_neither}
use Rattle.basics.specs.Searches.{any_below}
use Rattle.happens_before.specs.Types.{Side, Event, Trace}
use Rattle.happens_before.specs.Causality.{step, through}
use Rattle.happens_before.proofs.RowLaws.{step_at}

-- the side of the event at a place of the array
abbrev pub side_at : Trace → ℕ → Side
side_at t k = side_of (get_or t.events k no_event).head (get_or t.events k no_event).operation

-- the sides of the first n events are noted
abbrev pub Noted : Trace → ℕ → List Side → Type 0
Noted t n sides = (k : ℕ) → k < n → get_or sides k no_side ≡ side_at t k

-- what the sides tell of a step from k to j
module _ (delay : ℕ) (t : Trace) (fits : t.len ≤ length t.events) (sides : List Side) (j k : ℕ) (f : Noted t j sides) (l : k < j) (m : j < t.len) {s : Side} (e : s ≡ side_at t j) where
  as_noted : {A : Type 0} (p : Side → Side → A) → p (side_at t k) (side_at t j) ≡ p (get_or sides k no_side) s
  as_noted p = ap₂ p (sym (f k l)) (sym e)

  pub a_step : side_step delay (get_or sides k no_side) s ≡ true → step delay (events_of t) k j ≡ true
  a_step g = step_at delay t fits k j l m ∙ by_side delay _ _ (as_noted (side_step delay) ∙ g)

  pub token_step_lem : side_step delay (get_or sides k no_side) s ≡ false → step delay (events_of t) k j ≡ token_step (get_or t.events k no_event).head (get_or t.events j no_event).head
  token_step_lem g = step_at delay t fits k j l m ∙ by_token delay _ _ (as_noted (side_step delay) ∙ g)

  pub no_step : side_step delay (get_or sides k no_side) s ≡ false → may_pass_to (get_or sides k no_side) s ≡ false → step delay (events_of t) k j ≡ false
  no_step g h = step_at delay t fits k j l m ∙ by_neither delay _ _ (as_noted (side_step delay) ∙ g) (as_noted may_pass_to ∙ h)

-- a turn of filling the row of j without event k, which does not directly precede it
pub passed_by : (delay : ℕ) (es : List Event) (i j k : ℕ) {y : Bool} → y ≡ any_below (through delay es i j) k → step delay es k j ≡ false → y ≡ any_below (through delay es i j) (k + 1)
passed_by delay es i j k e f = rw (add-one, f, or-false) e
