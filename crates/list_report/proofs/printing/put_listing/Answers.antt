-- The list is made in a buffer of its own, and printed from there.
use native.Mathlib.Omega.{arith}
use mathlib.Core.Path.{sym}
use lib.Seq.{length-take-le}
use Rattle.text_numbers.proofs.Writing.{put_then}
use Rattle.list_pairs.proofs.Made.{list_fits}
use Rattle.list_report.proofs.Printed.{list_put}
use Rattle.list_report.proofs.printing.put_listing.Goals as goal

-- The list is made in a buffer of its own, and printed from there.
pub overflow_mul-n : goal.overflow_mul-n
overflow_mul-n c = omega (arith, c.list_of-counts.ensures.most)

pub slice_bounds-put_races-end : goal.slice_bounds-put_races-end
slice_bounds-put_races-end c = sym (length-take-le _ _ c.list_of-counts.ensures.within)

pub put_races-at-requires : goal.put_races-at-requires
put_races-at-requires c = list_fits _ _ c.list_of-counts.result _ c.list_of-counts.ensures _ (omega (arith, c.list_of-counts.ensures.most))

pub returns : goal.returns
returns c = list_put _ _ c.list_of-counts.result _ c.list_of-counts.ensures (put_then c.put_races-at.ensures.put c.put_counts.ensures)
