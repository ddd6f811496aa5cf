use borrow.Author.Rules.{rules}
use Rattle.order_check.proofs.recorded.recorded_order.Goals as goal

pub returns : goal.returns
returns c = (c.from_fn.ensures.items.long, λ i l. let (p, q, called) = c.from_fn.ensures.items.at i 0 l in search (rules, called))
