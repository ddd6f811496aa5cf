use native.Mathlib.Omega.{arith}
use mathlib.Core.Path.{◌≡◌}
use lib.ListN.{length}
use Rattle.trace_events.specs.Events.{events_of}
use Rattle.trace_events.proofs.TraceLaws.{length_events}
use Rattle.basics.proofs.Arrays.{length_mapped}
use Rattle.replay_call.proofs.Leaving.{ran_through}
use borrow.Author.Rules.{rules}
use Rattle.replay_call.proofs.replaying.run_order.Goals as goal

-- at most 256 rows come in, and each of at most 256 events adds at most one
pub write_both-requires : goal.write_both-requires
write_both-requires c = (omega (arith, c.run-ran.ensures.size, c.requires.1, c.requires.3), c.requires.0)

pub returns : goal.returns
returns c =
    let size : length (events_of c.args.t) ≡ c.args.t.len = let n : length c.args.t.events ≡ 256 = search (rules, length_mapped, c.well_formed.0) in length_events c.args.t (omega (arith, c.requires.0)) in
    ran_through (events_of c.args.t) c.args.order.now c.args.start c.run-ran.result c.run-ran.ensures c.args.t.len _ _ (size) c.write_both.ensures
