use mathlib.Core.Path.{sym, ◌∙◌}
use native.Mathlib.Omega.{arith}
use Rattle.text_lines.proofs.Laws.{count_end, count_here, count_on}
use Rattle.text_lines.proofs.count_lines.Goals as goal
use Rattle.text_lines.proofs.count_lines.Goals.{then-b-eq-LF, else-b-eq-LF}

pub loop-b-preserved : goal.loop-b-preserved
loop-b-preserved c =
    elim c.if-b-eq-LF.branch [
      | then-b-eq-LF w ↦ (omega (arith, w.n-is), c.loop-b.invariant.1 ∙ count_here _ _ _ c.loop-b-test.true w.if-b-eq-LF.true ∙ rw w.n-is)
      | else-b-eq-LF w ↦ (omega (arith, w.n-is), c.loop-b.invariant.1 ∙ count_on _ _ _ c.loop-b-test.true w.if-b-eq-LF.false ∙ rw w.n-is)
    ]

pub returns : goal.returns
returns c = sym (c.loop-b.invariant.1 ∙ count_end _ _ _ c.loop-b-test.false)
