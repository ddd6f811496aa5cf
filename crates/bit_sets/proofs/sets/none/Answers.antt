use Rattle.bit_sets.proofs.Members.{member_none}
use Rattle.bit_sets.proofs.sets.none.Goals as goal

pub returns : goal.returns
returns g c = member_none g.row.N
