-- The parts that were printed end within the results.
use Rattle.std.proofs.Common.{length, ◌-◌, ◌≤◌}
use Rattle.replay_orders.proofs.print_results.Given as goal

abbrev pub invariant-loop-from : goal.invariant-loop-from
invariant-loop-from g l = l.from ≤ length l.results

abbrev pub decreases-loop-from : goal.decreases-loop-from
decreases-loop-from g l = length l.results - l.from
