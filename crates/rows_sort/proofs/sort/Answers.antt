use mathlib.Core.Path.{◌≡◌, refl, sym, ap, ◌∙◌}
use Prim.Native.Nat.{◌+◌}
use native.Mathlib.Omega.{arith}
use lib.ListN.{take, length}
use borrow.Author.Rules.{rules}
use Rattle.basics.proofs.Arrays.{length_mapped}
use Rattle.rows.proofs.RowLaws.{sorted_insert_row}
use Rattle.std.specs.Prelude.{Ok}
use Rattle.rows_search.proofs.Found.{any_stands}
use Rattle.rows_sort.specs.Sorting.{sort_rows}
use Rattle.rows_sort.proofs.SortLaws.{line_twice, line_first, no_lines, same_left}
use Rattle.rows_sort.proofs.sort.Goals as goal

pub loop-i-init : goal.loop-i-init
unfolding sort_rows
loop-i-init c =
    let size : length c.args.lines.rows ≡ 512 = search (rules, length_mapped, c.well_formed.0) in
    (omega arith, size, tt, refl)

pub returns-in_default-clause-sorts : goal.returns-in_default-clause-sorts
returns-in_default-clause-sorts c =
    let inv = c.loop-i.invariant in
    sym inv.3 ∙ line_twice c.loop-i.rows c.args.lines.len c.loop-i.i _ (omega arith) (omega arith) _ (any_stands _ _ _ c.in_default.ensures.stands)

pub loop-i-preserved : goal.loop-i-preserved
loop-i-preserved c =
    let inv = c.loop-i.invariant in
    let put = c.insert_at.ensures.first ∙ sym c.in-Err.ensures.goes.puts in
    let rest = same_left c.loop-i.rows c.insert_at.new.rows c.args.lines.len (c.loop-i.i + 1) (omega arith) (omega arith) c.insert_at.ensures.len c.insert_at.ensures.rest in (
      omega arith,
      c.insert_at.ensures.len ∙ inv.1,
      rw put (sorted_insert_row _ _ inv.2),
      rw (put, rest) (sym (line_first c.loop-i.rows c.args.lines.len c.loop-i.i _ (omega arith) (omega arith) _ c.in-Err.ensures.goes.absent) ∙ inv.3),
    )

pub returns-clause-sorts : goal.returns-clause-sorts
returns-clause-sorts c =
    let end : c.loop-i.i ≡ c.args.lines.len = omega (arith, c.loop-i-test.false) in
    sym c.loop-i.invariant.3 ∙ no_lines c.loop-i.rows c.args.lines.len c.loop-i.i _ c.loop-i-test.false (omega arith) ∙ ap (λ j. Ok (take j c.loop-i.rows)) end
