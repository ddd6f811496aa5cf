use Rattle.trials_call.proofs.OneOrder.{order_refused, order_ended}
use Rattle.trials_call.proofs.trial.trial.Goals as goal

-- an order that is refused
pub returns-then-is_err : goal.returns-then-is_err
returns-then-is_err c = λ delay es rs ready. order_refused delay es rs _ _ _ _ _ ready _ c.check_order.result c.check_order.ensures c.if-is_err.ensures.value

-- one that ends as the recorded one
pub returns-then-same : goal.returns-then-same
returns-then-same c =
    λ delay es rs ready. rw c.if-same.true at (order_ended delay es rs _ _ _ _ _ ready _ c.check_order.result c.check_order.ensures c.if-is_err.ensures.value
    c.run-end.result (c.run-end.ensures es ready.start.slots ready.start.slots_of ready.start.inside) c.same.ensures)

-- one that ends otherwise
pub returns-else-same : goal.returns-else-same
returns-else-same c =
    λ delay es rs ready. rw c.if-same.false at (order_ended delay es rs _ _ _ _ _ ready _ c.check_order.result c.check_order.ensures c.if-is_err.ensures.value
    c.run-end.result (c.run-end.ensures es ready.start.slots ready.start.slots_of ready.start.inside) c.same.ensures)
