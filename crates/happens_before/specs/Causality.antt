-- Document 01, "Happens-before": every chain of one or more steps of direct precedence, under the caller's delay.
use Rattle.std.specs.Prelude.{◌≡◌, Bool, true, false, ◌&&◌, ◌||◌, List, ◌⊎◌, ℕ, zero, suc, ◌<◌, eqb, ltb, length}
use Rattle.trace_events.specs.Events.{event_at}
use Rattle.basics.specs.Searches.{any_below}
use Rattle.trace_events.specs.Precedence.{line_step, LineSteps}
use Rattle.trace_events.specs.Clocks.{time_step, TimeSteps}
use Rattle.trace_events.specs.Inner.{precedes}
use Rattle.happens_before.specs.Types.{Event}

-- event i directly precedes event j: by a token or a barrier, where j is of a later line; or by the clocks, on whichever lines
unfoldable pub direct : ℕ → List Event → ℕ → ℕ → Bool
direct delay es i j =
    ltb i (length es) && (ltb j (length es)
    && ((ltb i j && line_step (event_at es i) (event_at es j)) || time_step delay (event_at es i) (event_at es j)))

-- the same in words (proofs/Direct.antt, `direct_iff`)
pub record DirectlyPrecedes (delay : ℕ) (es : List Event) (i j : ℕ) : Type 0 where
  pub first : i < length es
  pub second : j < length es
  pub by : ((i < j) × LineSteps (event_at es i) (event_at es j)) ⊎ TimeSteps delay (event_at es i) (event_at es j)

-- one or more steps; event i happens before event j if there is a `Chain (direct delay es) i j`
pub data Chain (d : ℕ → ℕ → Bool) : ℕ → ℕ → Type 0 where
  link : {i j : ℕ} → d i j ≡ true → Chain d i j
  onward : {i k j : ℕ} → Chain d i k → d k j ≡ true → Chain d i j

-- ---- the test, which looks at steps to later lines; in an accepted trace there are no others (proofs/Direct.antt, `step_is_direct`)
unfoldable pub step : ℕ → List Event → ℕ → ℕ → Bool
step delay es i j = ltb i j && (ltb j (length es) && precedes delay (event_at es i) (event_at es j))

-- a chain of at most f steps, each to a larger number: by its last step, from k
unfoldable pub reaches : (ℕ → ℕ → Bool) → ℕ → ℕ → ℕ → Bool
reaches d zero i j = false
reaches d (suc f) i j = any_below (λ k. d k j && (eqb i k || reaches d f i k)) j

-- event i happens before event j: a chain to j has at most j steps
unfoldable pub before : ℕ → List Event → ℕ → ℕ → Bool
before delay es i j = reaches (step delay es) j i j

-- event i is event k or happens before it, and k directly precedes j
abbrev pub through : ℕ → List Event → ℕ → ℕ → ℕ → Bool
through delay es i j k = step delay es k j && (eqb i k || before delay es i k)
