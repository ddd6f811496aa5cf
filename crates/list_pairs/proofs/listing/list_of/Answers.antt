use Rattle.list_pairs.proofs.Made.{events_most, made}
use Rattle.list_pairs.proofs.listing.list_of.Goals as goal

pub returns : goal.returns
returns c = made _ _ (events_most c.args.t c.requires.0) c.scan.result c.scan.ensures.value _ _ c.requires.1 c.scan.ensures.list_after
