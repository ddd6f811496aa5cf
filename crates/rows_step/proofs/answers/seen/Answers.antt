-- In each arm the answer is that of the definition; a count of the best priority grows by one at most.
use mathlib.Core.Path.{refl, ◌∙◌, sym}
use native.Mathlib.Omega.{arith}
use borrow.Author.Tests.{lt-ltb, le-ltb, eq-eqb, ne_eqb}
use Rattle.std.proofs.lemmas.Cmp.{ranked}
use Rattle.rows_step.specs.Inner.{seen, seen_at}
use Rattle.rows_step.proofs.answers.seen.Goals as goal

pub returns-in-Silent : goal.returns-in-Silent
unfolding seen
returns-in-Silent c = rw c.in-Silent.is (refl, omega arith)

pub returns-in-Done : goal.returns-in-Done
unfolding seen
returns-in-Done c = rw c.in-Done.is (refl, omega arith)

pub returns-in-Miss : goal.returns-in-Miss
unfolding seen
returns-in-Miss c = rw c.in-Miss.is (refl, omega arith)

pub returns-in-Less : goal.returns-in-Less
unfolding seen seen_at
returns-in-Less c =
    let less = ranked c.in-Hit.best c.args.row.entry.key.priority _ (sym c.in-Less.is ∙ c.cmp.ensures) in
    rw (c.in-Hit.is, lt-ltb _ _ less) (refl, omega arith)

pub returns-in-Equal : goal.returns-in-Equal
unfolding seen seen_at
returns-in-Equal c =
    let same = ranked c.in-Hit.best c.args.row.entry.key.priority _ (sym c.in-Equal.is ∙ c.cmp.ensures) in
    rw (c.in-Hit.is, le-ltb c.in-Hit.best c.args.row.entry.key.priority (omega arith), eq-eqb _ _ same) (refl, omega arith)

pub returns-in-Greater : goal.returns-in-Greater
unfolding seen seen_at
returns-in-Greater c =
    let more = ranked c.in-Hit.best c.args.row.entry.key.priority _ (sym c.in-Greater.is ∙ c.cmp.ensures) in
    rw (c.in-Hit.is, le-ltb c.in-Hit.best c.args.row.entry.key.priority (omega arith), ne_eqb c.in-Hit.best c.args.row.entry.key.priority (λ q. omega arith)) (refl, omega arith)
