use Rattle.rows_search.proofs.Inserted.{insert_first, insert_rest}
use Rattle.rows_search.proofs.places.insert_at.Goals as goal

pub returns-clause-first : goal.returns-clause-first
returns-clause-first c = insert_first c.args.rows.now c.args.n c.args.at c.args.row c.requires.0 c.requires.1 c.rotate_right.new.self c.rotate_right.ensures.after

pub returns-clause-rest : goal.returns-clause-rest
returns-clause-rest c = insert_rest c.args.rows.now c.args.n c.args.at c.args.row c.requires.0 c.requires.1 c.rotate_right.new.self c.rotate_right.ensures.after
