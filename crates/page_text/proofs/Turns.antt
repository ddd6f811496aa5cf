-- The line that the code makes of a pair, from the trace's array: it is that of the definition, and in range. Assumes nothing.
use Prim.Native.Nat.{ℕ, ◌<◌, ◌≤◌}
use native.Mathlib.Omega.{arith}
use mathlib.Core.Path.{◌≡◌, refl, subst, ◌∙◌}
use mathlib.Core.List.{List, [], ◌∷◌, ◌++◌}
use lib.ListN.{get_or}
use Rattle.text_numbers.specs.Inner.{Put}
use Rattle.trace_events.specs.Events.{events_of, event_at, no_event}
use Rattle.trace_events.proofs.TraceLaws.{event_at_lem}
use Rattle.trace_line.specs.Written.{EventInRange}
use Rattle.page_lines.specs.PairLines.{pair_line_of, pair_text}
use Rattle.page_lines.specs.Inner.{LineInRange}
use Rattle.page_text.specs.Types.{Trace, PairLine}
use Rattle.page_text.specs.Page.{said_of}
use Rattle.page_text.specs.Inner.{line_of_pair}
use Rattle.page_text.proofs.Ranges.{said_range}

module _ (t : Trace) (i j : ℕ) (a : i < t.len) (b : j < t.len) {line : PairLine} (e : line ≡ pair_line_of i (get_or t.events i no_event).operation j (get_or t.events j no_event).operation) where
  line_is : line ≡ said_of (events_of t) (record { lower = i; higher = j })
  line_is = e ∙ rw (← event_at_lem t i a, ← event_at_lem t j b) refl

  pub line_range : t.len ≤ 256 → ((k : ℕ) → EventInRange (event_at (events_of t) k)) → LineInRange line
  line_range few range = rw line_is (said_range (events_of t) range (record { lower = i; higher = j }) (omega arith) (omega arith))

  pub line_made : {at n : ℕ} {xs ys : List ℕ} → Put (pair_text line ++ (10 ∷ [])) at xs n ys → Put (line_of_pair (events_of t) i j) at xs n ys
  line_made {at} {n} {xs} {ys} p = subst (λ (l : PairLine). Put (pair_text l ++ (10 ∷ [])) at xs n ys) line_is p
