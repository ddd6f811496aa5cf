-- An order of events leaves at most one entry more for each event, on all switches together, whatever the events and the starting tables
-- (`held_run`). Assumes nothing.
use mathlib.Core.List.{List, [], ◌∷◌}
use Prim.Native.Nat.{ℕ, ◌+◌, ◌≤◌}
use native.Mathlib.Omega.{arith}
use lib.ListN.{length}
use Rattle.flow_table.specs.Switches.{Tables, entries_held, step_of}
use Rattle.flow_table.proofs.Effects.{held_step}
use Rattle.order_meaning.specs.Types.{Operation}
use Rattle.order_meaning.specs.Tables.{end_tables}

pub held_run : (n : ℕ) (ev : ℕ → Operation) (o : List ℕ) (s : Tables) → entries_held n (end_tables ev o s) ≤ entries_held n s + length o
held_run n ev [] s = omega arith
held_run n ev (i ∷ o) s = omega (arith, held_run n ev o (step_of (ev i) s), held_step n (ev i) s)
