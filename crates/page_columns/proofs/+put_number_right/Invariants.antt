-- The measure is the number.
use Rattle.page_columns.proofs.+put_number_right.Given as goal

abbrev pub decreases-put_number_right : goal.decreases-put_number_right
decreases-put_number_right l = l.v
