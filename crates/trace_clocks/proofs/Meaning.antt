-- What the test of refusal 55 means: the time rule puts a later line before the line. A trace that passes has none, and a longer delay
-- refuses no more. Assumes nothing.
use Rattle.std.specs.Prelude.{Ok}
use Prim.Native.Nat.{ℕ, ◌≤◌, ◌<◌}
use mathlib.Core.Bool.{true, false}
use mathlib.Core.List.{List}
use mathlib.Core.Logic.{◌↔◌}
use mathlib.Core.Path.{◌≡◌}
use native.Mathlib.Omega.{arith}
use borrow.Author.Tests.{ltb-true, lt-ltb}
use lib.Dec.{ltb}
use lib.ListN.{length}
use Rattle.basics.specs.Searches.{lowest}
use Rattle.basics.proofs.Booleans.{split, and_left, and_right, and_intro}
use Rattle.basics.proofs.Searches.{any_found, any_at, lowest_none, lowest_absent}
use Rattle.refusals.specs.Checks.{refuse_at}
use Rattle.refusals.proofs.Checks.{same_value, handed_on, nothing_found}
use Rattle.trace_events.specs.Events.{event_at}
use Rattle.trace_events.specs.Clocks.{time_step}
use Rattle.trace_events.proofs.Clocks.{time_step_iff, time_step_less}
use Rattle.trace_clocks.specs.Types.{Refusal, Event}
use Rattle.trace_clocks.specs.Backward.{backward, check_clocks, BackwardAt}

-- 55: the test says yes of line i exactly if the time rule puts a later line before it
pub backward_iff : (delay : ℕ) (es : List Event) (i : ℕ) → (backward delay es i ≡ true) ↔ BackwardAt delay es i
unfolding backward
backward_iff delay es i = (
  λ e.
      let (j, l, h) = any_found _ (length es) e in
      let steps = time_step delay (event_at es j) (event_at es i) in
      record {
        line = j;
        later = ltb-true i j (and_left (ltb i j) steps h);
        inside = l;
        puts = (time_step_iff delay (event_at es j) (event_at es i)).0 (and_right (ltb i j) steps h);
      },
  λ w. any_at _ (length es) w.line w.inside
      (and_intro (lt-ltb i w.line w.later) ((time_step_iff delay (event_at es w.line) (event_at es i)).1 w.puts)),
)

-- ---- a trace that passes
module _ (delay : ℕ) (es : List Event) where
  -- is handed on as it is, and no line of it is one that the time rule puts behind a later one
  pub clocks_only : {fs : List Event} → check_clocks delay es ≡ Ok fs → (es ≡ fs) × ((i : ℕ) → i < length es → BackwardAt delay es i → ⊥)
  unfolding check_clocks
  clocks_only h =
      let (_, p, u) = handed_on (refuse_at (lowest (backward delay es) (length es)) Refusal.TimeBackward) (λ _. Ok es) h in
      (same_value u, lowest_none (BackwardAt delay es) (backward delay es) (backward_iff delay es) (length es) (nothing_found _ _ p))

  pub clocks_pass : ((i : ℕ) → i < length es → BackwardAt delay es i → ⊥) → check_clocks delay es ≡ Ok es
  unfolding check_clocks
  clocks_pass h = rw (lowest_absent (BackwardAt delay es) (backward delay es) (backward_iff delay es) (length es) h)

  pub clocks_forward : {fs : List Event} → check_clocks delay es ≡ Ok fs → (i j : ℕ) → i < j → j < length es → time_step delay (event_at es j) (event_at es i) ≡ false
  clocks_forward h i j l m = split (time_step delay (event_at es j) (event_at es i))
      (λ e. absurd ((clocks_only h).1 i (omega arith) (record { line = j; later = l; inside = m; puts = (time_step_iff delay (event_at es j) (event_at es i)).0 e })))
      (λ e. e)

-- ---- a longer delay
module _ (d e : ℕ) (es : List Event) (longer : d ≤ e) where
  pub less_backward : (i : ℕ) → BackwardAt e es i → BackwardAt d es i
  less_backward i w =
      let a = event_at es w.line in
      let b = event_at es i in
      record {
        line = w.line;
        later = w.later;
        inside = w.inside;
        puts = (time_step_iff d a b).0 (time_step_less d e a b longer ((time_step_iff e a b).1 w.puts));
      }

  pub backward_less : (i : ℕ) → backward e es i ≡ true → backward d es i ≡ true
  backward_less i h = (backward_iff d es i).1 (less_backward i ((backward_iff e es i).0 h))

  pub clocks_longer : check_clocks d es ≡ Ok es → check_clocks e es ≡ Ok es
  clocks_longer h = clocks_pass e es (λ i l w. (clocks_only d es h).1 i l (less_backward i w))
