use borrow.Author.Tests.{not-true, not-false}
use Rattle.list_verdicts.proofs.Paths.{unpaired, is_ordered, is_commuting, is_listed}
use Rattle.list_verdicts.proofs.verdict.verdict_of.Goals as goal

pub returns-then-not-is_paired : goal.returns-then-not-is_paired
returns-then-not-is_paired c = unpaired _ _ _ c.is_paired.ensures (not-true _ c.if-not-is_paired.true-raw)

pub returns-then-ordered : goal.returns-then-ordered
returns-then-ordered c = is_ordered _ _ _ c.is_paired.ensures (not-false _ c.if-not-is_paired.false-raw) c.if-ordered.true

pub returns-then-commutes : goal.returns-then-commutes
returns-then-commutes c = is_commuting _ _ _ c.is_paired.ensures (not-false _ c.if-not-is_paired.false-raw) c.if-ordered.false c.commutes.ensures c.if-commutes.true

pub returns : goal.returns
returns c = is_listed _ _ _ c.is_paired.ensures (not-false _ c.if-not-is_paired.false-raw) c.if-ordered.false c.commutes.ensures c.if-commutes.false
