use Rattle.rows_step.proofs.Passing.{Passing}
use Rattle.rows_step.proofs.one_pass.pass.Given as goal

abbrev pub invariant-loop-i : goal.invariant-loop-i
invariant-loop-i l = Passing l.work l.fn.rows l.n l.rows l.i l.len l.met l.answer
