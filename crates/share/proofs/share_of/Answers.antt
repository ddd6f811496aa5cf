use mathlib.Core.Path.{sym}
use Rattle.share.proofs.Theorems.{share_none, share_some}
use Rattle.share.proofs.share_of.Goals as goal

pub returns-then-divisor-eq0 : goal.returns-then-divisor-eq0
returns-then-divisor-eq0 c = sym (share_none c.args.c c.if-divisor-eq0.true)

pub returns : goal.returns
returns c = sym (share_some c.args.c c.if-divisor-eq0.false)
