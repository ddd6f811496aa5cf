use mathlib.Core.Path.{refl}
use Rattle.happens_before.specs.Inner.{search_from}
use Rattle.happens_before.proofs.closure.search_from.Goals as goal

pub returns-then-later-barred : goal.returns-then-later-barred
unfolding search_from
returns-then-later-barred c = let t = rw (c.from.ensures, c.from-2.ensures, c.from-3.ensures) at c.if-later-barred.true in rw t refl

pub returns-else-later-barred : goal.returns-else-later-barred
unfolding search_from
returns-else-later-barred c = let t = rw (c.from.ensures, c.from-2.ensures, c.from-3.ensures) at c.if-later-barred.false in rw t refl
