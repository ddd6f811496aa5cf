use Rattle.trace_events.proofs.head.Head.empty.Goals as goal

pub returns : goal.returns
returns c = cc
