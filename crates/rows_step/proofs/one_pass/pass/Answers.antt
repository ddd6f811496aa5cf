use Rattle.rows_step.proofs.Passing.{pass_start, pass_turn, pass_rows, pass_met, pass_answer}
use Rattle.rows_step.proofs.one_pass.pass.Goals as goal

pub loop-i-init : goal.loop-i-init
loop-i-init c = pass_start _ _ _ c.requires.there c.requires.few c.requires.fresh _ c.first-first.ensures

pub loop-i-preserved : goal.loop-i-preserved
loop-i-preserved c =
    let next = c.next_free-len.ensures in
    let noted = c.noted-answer.ensures in
    pass_turn _ _ _ _ _ _ _ _ c.loop-i.invariant c.loop-i-test.true _ _ c.passes-passes.ensures _ c.treated.ensures _ c.drops.ensures _ next.0 next.1 _ noted.0 noted.1

pub returns-clause-rows : goal.returns-clause-rows
returns-clause-rows c = pass_rows _ _ _ _ _ _ _ _ c.loop-i.invariant c.loop-i-test.false

pub returns-clause-met : goal.returns-clause-met
returns-clause-met c = pass_met _ _ _ _ _ _ _ _ c.loop-i.invariant c.loop-i-test.false

pub returns-clause-answer : goal.returns-clause-answer
returns-clause-answer c = pass_answer _ _ _ _ _ _ _ _ c.loop-i.invariant c.loop-i-test.false
