use Rattle.bit_sets.proofs.NextLaws.{no_bit, some_bit}
use Rattle.bit_sets.proofs.search.next_bit.Goals as goal

pub returns-then-rest-eq0 : goal.returns-then-rest-eq0
returns-then-rest-eq0 c = no_bit c.args.word c.args.from c.if-rest-eq0.true

pub returns : goal.returns
returns c = some_bit c.args.word c.args.from c.ranges.word.fits c.if-rest-eq0.false
