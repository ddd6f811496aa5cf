use native.Mathlib.Omega.{arith}
use Prim.Native.Nat.{◌+◌}
use mathlib.Core.Path.{sym}
use mathlib.Core.Bool.{◌&&◌, ◌||◌}
use borrow.Author.Tests.{le-ltb}
use Rattle.basics.proofs.Booleans.{and_false_right}
use Rattle.trace_events.specs.Inner.{side_later}
use Rattle.trace_events.proofs.side.Side.is_surely_before.Goals as goal

pub returns-then-other-self : goal.returns-then-other-self
unfolding side_later
returns-then-other-self c = sym (and_false_right (c.args.self.handled && c.args.other.handled && (c.args.self.ordered || c.args.other.ordered)) (le-ltb (c.args.self.to + c.args.delay) c.args.other.from (omega (arith, c.if-other-self.true))))

pub returns : goal.returns
unfolding side_later
returns c = cc
