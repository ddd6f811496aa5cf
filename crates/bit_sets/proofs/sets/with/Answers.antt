use native.Mathlib.Omega.{arith}
use Rattle.bit_sets.proofs.Members.{with_member}
use Rattle.bit_sets.proofs.sets.with.Goals as goal

pub returns : goal.returns
returns g c = with_member c.args.set c.args.j (omega arith)
