use Rattle.std.proofs.Common.{◌≡◌, arith, drop}
use Rattle.std.proofs.lemmas.Grind.{common_steps}
use Rattle.text_numbers.proofs.Keys.{starts_pointwise}
use Rattle.text_numbers.proofs.text.starts_with.Goals as goal

pub returns : goal.returns
returns c =
    let rest : c.unwrap_or.result.now ≡ drop c.args.at c.args.s.now = grind (arith, common_steps) in
    rw (starts_pointwise c.args.key.now (drop c.args.at c.args.s.now), ← rest) c.starts_with.ensures.value
