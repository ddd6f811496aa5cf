use Prim.Native.Nat.{ℕ, ◌+◌, ◌*◌, ◌≤◌}
use native.Mathlib.Omega.{arith}
use mathlib.Core.Path.{◌≡◌, refl, sym, ap, ap₂, ◌∙◌}
use mathlib.Core.List.{List}
use lib.ListN.{length}
use lib.Seq.{sets, length-sets}
use borrow.Author.Rules.{rules}
use Rattle.trace_events.specs.Events.{events_of, event_at}
use Rattle.trace_events.proofs.TraceLaws.{length_events}
use Rattle.basics.proofs.Arrays.{length_mapped}
use Rattle.list_pairs.proofs.Reading.{get_D_either}
use Rattle.list_pairs.specs.Types.{Event, TableUse}
use Rattle.list_pairs.specs.List.{test, Pair, pair_bytes, of_kind}
use Rattle.list_verdicts.specs.Kinds.{listed, Kind}
use Rattle.list_verdicts.specs.Inner.{no_use, verdict_by}
use Rattle.list_verdicts.proofs.Paths.{verdict_by_lem}
use Rattle.list_pairs.specs.Inner.{count_of}
use Rattle.list_pairs.proofs.PairLaws.{pairs_of, row_start, row_most, small_of, count_turn, bytes_turn, rows_below, below_most, below_count, below_bytes, all_rows, counted}
use Rattle.list_pairs.proofs.pass.scan.Goals as goal

-- no count is more than there are pairs so far
most : (delay : ℕ) (k : Kind) (es : List Event) (n i j x y : ℕ) → n ≤ 256 → x ≡ y + length (pairs_of delay k es i j) → y ≡ length (rows_below delay k es n i) → x ≤ i * 256 + j
most delay k es n i j x y few xy ys = omega (arith, below_most delay k es n i few, row_most (test delay k es) i j)

pub loop-i-init : goal.loop-i-init
loop-i-init c = (omega arith, search (rules, length_mapped), c.no_counts-sum.ensures, refl, c.all_uses-uses.ensures.0)

pub loop-j-init : goal.loop-j-init
loop-j-init c =
    let es = events_of c.args.t in (
      omega arith,
      omega arith,
      λ k. rw (row_start (test _ k es) c.loop-i.i) (omega arith),
      rw (row_start (test _ listed es) c.loop-i.i) refl,
    )

pub overflow_mul-sum : goal.overflow_mul-sum
overflow_mul-sum c = omega (arith, most c.args.delay listed (events_of c.args.t) c.args.t.len c.loop-i.i c.loop-j.j _ _ c.requires.len_bound.0 (c.loop-j.invariant.2 listed) (c.loop-i.invariant.2 listed))

pub put_listed-requires : goal.put_listed-requires
put_listed-requires c =
    let es = events_of c.args.t in
    omega (
      arith,
      most c.args.delay listed (events_of c.args.t) c.args.t.len c.loop-i.i c.loop-j.j _ _ c.requires.len_bound.0 (c.loop-j.invariant.2 listed) (c.loop-i.invariant.2 listed),
      c.requires.len_bound,
      ap length c.loop-j.invariant.3,
      length-sets c.loop-i.list (2 * c.loop-i.sum.listed) (pair_bytes (pairs_of c.args.delay listed es c.loop-i.i c.loop-j.j)),
      ap length c.loop-i.invariant.3,
      length-sets c.args.list.now 0 (pair_bytes (rows_below c.args.delay listed es c.args.t.len c.loop-i.i)),
    )

pub counted-sum-requires : goal.counted-sum-requires
counted-sum-requires c = small_of c.loop-j.sum (λ k. omega (arith, most c.args.delay k (events_of c.args.t) c.args.t.len c.loop-i.i c.loop-j.j _ _ c.requires.len_bound.0 (c.loop-j.invariant.2 k) (c.loop-i.invariant.2 k), c.requires.len_bound))

pub loop-j-preserved : goal.loop-j-preserved
loop-j-preserved c =
    let es = events_of c.args.t in
    let before-is = c.is_before-ordered.ensures ∙ c.requires.happens_before c.loop-i.i c.loop-j.j in
    let verdict =
    c.verdict_of-v.ensures
    ∙ ap₂ (λ (x y : TableUse). verdict_by x y c.is_before-ordered.result)
    (get_D_either c.all_uses-uses.result c.loop-i.i _ no_use (omega (arith, c.all_uses-uses.ensures.0, c.requires.len_bound)) ∙ c.all_uses-uses.ensures.1 c.loop-i.i (omega (arith, c.requires.len_bound)))
    (get_D_either c.all_uses-uses.result c.loop-j.j _ no_use (omega (arith, c.all_uses-uses.ensures.0, c.requires.len_bound)) ∙ c.all_uses-uses.ensures.1 c.loop-j.j (omega arith))
    ∙ verdict_by_lem (event_at es c.loop-i.i).operation (event_at es c.loop-j.j).operation (c.all_uses-uses.ensures.2 c.loop-i.i (omega (arith, c.requires.len_bound))) (c.all_uses-uses.ensures.2 c.loop-j.j (omega arith)) c.is_before-ordered.result in (
      omega arith,
      omega arith,
      λ k. count_turn _ es c.loop-i.i c.loop-j.j c.loop-j.invariant.0 before-is verdict k _ _ _ (c.counted-sum.ensures k) (c.loop-j.invariant.2 k),
      bytes_turn _ es c.loop-i.i c.loop-j.j c.loop-j.invariant.0 before-is verdict _ _ _ c.loop-i.sum.listed c.loop-j.sum.listed (c.loop-j.invariant.2 listed) c.loop-j.invariant.3 c.put_listed.ensures,
    )

pub loop-i-preserved : goal.loop-i-preserved
loop-i-preserved c =
    let es = events_of c.args.t in
    let e : c.loop-j.j ≡ c.args.t.len = omega arith in (
      omega arith,
      c.loop-i.invariant.1,
      λ k. below_count c.args.delay k es c.args.t.len c.loop-i.i _ _ (c.loop-j.invariant.2 k ∙ ap (λ (n : ℕ). count_of k c.loop-i.sum + length (pairs_of c.args.delay k es c.loop-i.i n)) e) (c.loop-i.invariant.2 k),
      below_bytes c.args.delay es c.args.t.len c.loop-i.i _ _ _ c.loop-i.sum.listed (c.loop-i.invariant.2 listed) c.loop-i.invariant.3
          (c.loop-j.invariant.3 ∙ ap (λ (n : ℕ). sets c.loop-i.list (2 * c.loop-i.sum.listed) (pair_bytes (pairs_of c.args.delay listed es c.loop-i.i n))) e),
      c.loop-i.invariant.4,
    )

pub shape_of-list : goal.shape_of-list
shape_of-list c = ap length c.loop-i.invariant.3 ∙ simp length-sets

pub returns : goal.returns
returns c =
    let size : length (events_of c.args.t) ≡ c.args.t.len = length_events c.args.t (omega (arith, c.requires.len_bound)) in
    let e : c.loop-i.i ≡ c.args.t.len = omega arith in
    record {
      value =
          counted c.args.delay (events_of c.args.t) c.loop-i.sum
          (λ k. c.loop-i.invariant.2 k ∙ ap (λ (m : ℕ). length (rows_below c.args.delay k (events_of c.args.t) c.args.t.len m)) e ∙ ap length (all_rows c.args.delay k (events_of c.args.t) c.args.t.len) ∙ ap (λ (m : ℕ). length (of_kind c.args.delay k (events_of c.args.t) m)) (sym size));
      list_after =
          c.loop-i.invariant.3
          ∙ ap (λ (m : ℕ). sets c.args.list.now 0 (pair_bytes (rows_below c.args.delay listed (events_of c.args.t) c.args.t.len m))) e
          ∙ ap (λ (ps : List Pair). sets c.args.list.now 0 (pair_bytes ps)) (all_rows c.args.delay listed (events_of c.args.t) c.args.t.len ∙ ap (of_kind c.args.delay listed (events_of c.args.t)) (sym size));
    }
