-- The sets tell, then the actions of the slots held, then the answers.
use mathlib.Core.Path.{sym, ◌∙◌}
use mathlib.Core.Bool.{false≢true}
use borrow.Author.Tests.{not-true, not-false}
use Rattle.slots_run.proofs.SameEnds.{rows_sets, rows_actions, same_rows}
use Rattle.slots_run.proofs.ends.same.Goals as goal

pub returns-then-not-same_set : goal.returns-then-not-same_set
returns-then-not-same_set c slots sorted few in-a in_b = (
  λ e. absurd (false≢true e),
  λ q. absurd (false≢true (sym (not-true _ c.if-not-same_set.true-raw) ∙ c.same_set.ensures.1 (rows_sets slots sorted c.args.a c.args.b in-a in_b q.0))),
)

pub returns-then-not-same_actions : goal.returns-then-not-same_actions
returns-then-not-same_actions c slots sorted few in-a in_b = (
  λ e. absurd (false≢true e),
  λ q. absurd (false≢true (sym (not-true _ c.if-not-same_actions.true-raw) ∙ c.same_actions.ensures.1 (rows_actions slots sorted c.args.a c.args.b in-a in_b q.0))),
)

pub returns : goal.returns
returns c slots sorted few in-a in_b =
    let sets = c.same_set.ensures.0 (not-false _ c.if-not-same_set.false-raw) in
    let actions = c.same_actions.ensures.0 (not-false _ c.if-not-same_actions.false-raw) in (
      λ e. (same_rows slots sorted c.args.a c.args.b in-a in_b sets actions, c.same_answers.ensures.0 e),
      λ q. c.same_answers.ensures.1 q.1,
    )
