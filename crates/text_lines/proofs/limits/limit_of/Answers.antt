use mathlib.Core.Path.{sym, ◌∙◌}
use native.Mathlib.Omega.{arith}
use borrow.Author.Tests.{not-true, not-false}
use Rattle.text_lines.proofs.LimitLaws.{too_long, unended, too_many, kept}
use Rattle.text_lines.proofs.limits.limit_of.Goals as goal

pub returns-then-text-gt65535 : goal.returns-then-text-gt65535
returns-then-text-gt65535 c = too_long _ c.if-text-gt65535.true

pub returns-then-not-ends_with_lf : goal.returns-then-not-ends_with_lf
returns-then-not-ends_with_lf c = unended _ c.if-text-gt65535.false (sym c.ends_with_lf.ensures ∙ not-true _ c.if-not-ends_with_lf.true-raw)

pub returns-then-count_lines-gt256 : goal.returns-then-count_lines-gt256
returns-then-count_lines-gt256 c = too_many _ c.if-text-gt65535.false (sym c.ends_with_lf.ensures ∙ not-false _ c.if-not-ends_with_lf.false-raw) (omega (arith, c.count_lines.ensures))

pub returns : goal.returns
returns c = kept _ c.if-text-gt65535.false (sym c.ends_with_lf.ensures ∙ not-false _ c.if-not-ends_with_lf.false-raw) (omega (arith, c.count_lines.ensures))
