use Rattle.list_verdicts.specs.Inner.{uses_paired}
use Rattle.list_verdicts.proofs.verdict.is_paired.Goals as goal

pub returns : goal.returns
unfolding uses_paired
returns c = cc
