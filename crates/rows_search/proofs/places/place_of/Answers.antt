use Rattle.std.proofs.Common.{rules}
use Rattle.std.proofs.lemmas.Fn.{always_returns_same}
use Rattle.rows.specs.Rows.{row_order}
use Rattle.rows_search.proofs.Searched.{placed}
use Rattle.rows_search.proofs.places.place_of.Goals as goal

pub returns-clause-stands : goal.returns-clause-stands
returns-clause-stands c =
    let found = c.binary_search_by.ensures in
    let at = found.position (λ y. row_order y c.args.row.now) (always_returns_same _ _ _ (λ a r f k. search rules)) in
    (placed c.args.row.now c.args.rows.now c.requires c.binary_search_by.result found.bound at).0

pub returns-clause-goes : goal.returns-clause-goes
returns-clause-goes c =
    let found = c.binary_search_by.ensures in
    let at = found.position (λ y. row_order y c.args.row.now) (always_returns_same _ _ _ (λ a r f k. search rules)) in
    (placed c.args.row.now c.args.rows.now c.requires c.binary_search_by.result found.bound at).1
