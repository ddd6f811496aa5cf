use native.Mathlib.Omega.{arith}
use mathlib.Core.Path.{refl}
use mathlib.Core.List.{[]}
use borrow.Author.Rules.{rules}
use Rattle.basics.proofs.Arrays.{length_mapped}
use Rattle.text_numbers.proofs.Writing.{put_none, put_length}
use Rattle.trace_events.specs.Events.{events_of}
use Rattle.list_pairs.proofs.EachPair.{behind_length, behind_inside, pairs_turn, pairs_done}
use Rattle.page_text.specs.Inner.{line_of_pair, pairs_text}
use Rattle.page_text.proofs.Turns.{line_range, line_made}
use Rattle.page_text.proofs.pairs.put_pairs.Goals as goal

pub loop-left-init : goal.loop-left-init
loop-left-init c = (
  omega arith,
  c.requires.len_bound.1,
  record { few = c.requires.len_bound.0; room = search (rules, length_mapped); inside = c.requires.by_index; in_range = c.requires.by_index_2 },
  ([], put_none 0 _, refl),
)

pub put_pair_line-at-requires : goal.put_pair_line-at-requires
put_pair_line-at-requires c =
    let here = c.loop-left.invariant.2 in (
      omega arith,
      line_range c.args.t _ _ (here.inside 0 (omega arith)) (here.inside 1 (omega arith)) c.pair_line-line.ensures here.few here.in_range,
    )

pub loop-left-preserved : goal.loop-left-preserved
loop-left-preserved c =
    let here = c.loop-left.invariant.2 in
    let two = c.in-len2-up.len_at_least in
    let made = line_made c.args.t _ _ (here.inside 0 (omega arith)) (here.inside 1 (omega arith)) c.pair_line-line.ensures c.put_pair_line-at.ensures.put in
    let t = pairs_turn (line_of_pair (events_of c.args.t)) _ _ c.loop-left.left.now c.loop-left.invariant.3.1 c.loop-left.invariant.3.2 two made in (
      omega (arith, c.put_pair_line-at.ensures.value, behind_length c.loop-left.left.now two),
      c.loop-left.invariant.1,
      record { few = here.few; room = here.room; inside = behind_inside _ _ two here.inside; in_range = here.in_range },
      (_, t.0, t.1),
    )

pub shape_of-out : goal.shape_of-out
shape_of-out c = put_length c.loop-left.invariant.3.1

pub returns : goal.returns
unfolding pairs_text
returns c = record { put = pairs_done (line_of_pair (events_of c.args.t)) _ _ c.loop-left.left.now c.loop-left.invariant.3.1 c.loop-left.invariant.3.2 (omega arith); upper_bound = omega arith }
