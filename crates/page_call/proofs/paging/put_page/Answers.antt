-- The list is made in a buffer of its own, so that nothing is written before the page's length is known.
use native.Mathlib.Omega.{arith}
use mathlib.Core.Path.{sym}
use lib.Seq.{length-take-le}
use Rattle.list_pairs.proofs.Made.{events_most, list_is, list_fits}
use Rattle.page_text.proofs.Inside.{list_inside}
use Rattle.page_call.proofs.PageLaws.{page_short, page_done}
use Rattle.page_call.proofs.paging.put_page.Goals as goal

-- The list is made in a buffer of its own, so that nothing is written before the page's length is known.
pub returns-then-out-needed : goal.returns-then-out-needed
returns-then-out-needed c = page_short _ _ c.list_of-counts.result _ c.list_of-counts.ensures (events_most c.args.t c.requires.few) c.requires.range _ c.if-out-needed.true

pub slice_bounds-put_pairs-end : goal.slice_bounds-put_pairs-end
slice_bounds-put_pairs-end c = sym (length-take-le _ _ c.list_of-counts.ensures.within)

pub put_pairs-at-requires : goal.put_pairs-at-requires
put_pairs-at-requires c = record { len_bound = (c.requires.few, list_fits _ _ c.list_of-counts.result _ c.list_of-counts.ensures 131072 (omega (arith, c.list_of-counts.ensures.most))); by_index = list_inside _ c.args.t _ (list_is _ _ c.list_of-counts.result _ c.list_of-counts.ensures); by_index_2 = c.requires.range }

pub returns : goal.returns
returns c = page_done _ _ c.list_of-counts.result _ c.list_of-counts.ensures (events_most c.args.t c.requires.few) c.requires.range _ (omega (arith, c.if-out-needed.false)) c.put_pairs-at.ensures.put c.put_counts.ensures
