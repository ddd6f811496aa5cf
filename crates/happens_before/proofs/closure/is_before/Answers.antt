use Rattle.happens_before.specs.Inner.{bit}
use Rattle.happens_before.proofs.closure.is_before.Goals as goal

pub returns : goal.returns
unfolding bit
returns c = cc
