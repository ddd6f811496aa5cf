-- The list is made in a buffer of its own, so that nothing is written before its length is known.
use native.Mathlib.Omega.{arith}
use Prim.Native.Nat.{ℕ, ◌*◌}
use mathlib.Core.Path.{sym, ap, ◌∙◌}
use mathlib.Core.List.{List, ◌++◌}
use lib.ListN.{drop}
use lib.Seq.{length-take-le}
use Rattle.list_call.proofs.ListLaws.{list_short, list_done}
use Rattle.list_call.proofs.listing.put_list.Goals as goal

-- The list is made in a buffer of its own, so that nothing is written before its length is known.
pub overflow_mul-needed : goal.overflow_mul-needed
overflow_mul-needed c = omega (arith, c.list_of-counts.ensures.most)

pub returns-then-out-needed : goal.returns-then-out-needed
returns-then-out-needed c = list_short _ _ c.list_of-counts.result _ c.list_of-counts.ensures _ c.if-out-needed.true

pub slice_bounds-pairs-end : goal.slice_bounds-pairs-end
slice_bounds-pairs-end c = c.list_of-counts.ensures.within

pub slice_bounds-copy_from_slice-end-3 : goal.slice_bounds-copy_from_slice-end-3
slice_bounds-copy_from_slice-end-3 c = sym (length-take-le _ _ c.list_of-counts.ensures.within)

pub copy_from_slice-requires : goal.copy_from_slice-requires
copy_from_slice-requires c = length-take-le _ _ (omega arith) ∙ sym (length-take-le _ _ c.list_of-counts.ensures.within)

pub returns : goal.returns
returns c =
    list_done _ _ c.list_of-counts.result _ c.list_of-counts.ensures _ _ (omega arith)
    (ap (λ (x : List ℕ). x ++ drop (2 * c.list_of-counts.result.listed) c.args.out.now) c.copy_from_slice.ensures.after)
