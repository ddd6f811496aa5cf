use Rattle.std.proofs.Common.{arith}
use Rattle.text_numbers.proofs.Keys.{key_room}
use Rattle.text_numbers.proofs.read.keyed.Goals as goal

pub overflow_add-at : goal.overflow_add-at
overflow_add-at g c = omega (arith, key_room c.args.key.now c.args.s.now c.args.at c.starts_with.ensures c.if-starts_with.true)
