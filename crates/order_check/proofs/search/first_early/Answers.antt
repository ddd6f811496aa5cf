use mathlib.Core.Path.{◌≡◌, refl, sym, ◌∙◌}
use Prim.Native.Nat.{◌+◌}
use borrow.Author.Rules.{rules}
use Rattle.basics.proofs.Booleans.{was}
use Rattle.order_check.proofs.SearchLaws.{PlacedBefore}
use Rattle.order_check.proofs.SearchLaws as walk
use Rattle.order_check.proofs.search.first_early.Goals as goal

pub search-init : goal.search-init
search-init c = (search rules, refl, refl, walk.none_placed _ c.requires.order_of.0)

pub loop-w-init : goal.loop-w-init
loop-w-init c = (search rules, refl, walk.none_yet _ _)

pub loop-w-preserved : goal.loop-w-preserved
loop-w-preserved c = (search rules, c.loop-w.invariant.1, walk.word_passed _ _ c.loop-w.w (was c.lacks.ensures c.if-lacks.false) c.loop-w.invariant.2)

pub search-preserved : goal.search-preserved
search-preserved c =
    let now_placed : PlacedBefore c.args.order.now (c.search.p + 1) c.with-placed.result = walk.one_placed _ c.requires.order_of.0 c.search.placed c.with-placed.result c.search.p c.search-test.true c.with-placed.ensures c.search.invariant.3 in
    let last : c.loop-w.w ≡ 4 = search rules in (
      search rules,
      c.loop-w.invariant.1 ∙ c.search.invariant.1,
      sym (walk.in_time_lem _ _ c.search.p c.search-test.true
          (walk.none_missing _ _ c.requires.by_index _ _ _ (now_placed) c.requires.order_of.1 (rw last at c.loop-w.invariant.2))) ∙ c.search.invariant.2,
      now_placed,
    )

pub returns-after-search : goal.returns-after-search
returns-after-search c = c.search.invariant.1 ∙ sym (sym c.search.invariant.2 ∙ walk.no_more _ _ c.search.p c.search-test.false)

pub returns-then-lacks : goal.returns-then-lacks
returns-then-lacks c =
    let now_placed : PlacedBefore c.args.order.now (c.search.p + 1) c.with-placed.result = walk.one_placed _ c.requires.order_of.0 c.search.placed c.with-placed.result c.search.p c.search-test.true c.with-placed.ensures c.search.invariant.3 in
    sym (sym c.search.invariant.2 ∙ walk.early_here _ _ c.search.p c.search-test.true
    (walk.word_found _ _ c.requires.by_index _ _ _ (now_placed) c.loop-w.w (was c.lacks.ensures c.if-lacks.true)))
