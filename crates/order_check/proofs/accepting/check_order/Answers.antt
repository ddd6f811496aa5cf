use mathlib.Core.Path.{refl, sym, ◌∙◌}
use native.Mathlib.Omega.{arith}
use borrow.Author.Tests.{not-false}
use Rattle.order_check.proofs.Flags.{complete_iff}
use Rattle.order_check.proofs.accepting.check_order.Goals as goal

-- the order that is searched is complete
pub first_early-requires : goal.first_early-requires
first_early-requires c =
    let order = (complete_iff c.args.n c.args.order.now).0 (sym c.is_complete.ensures ∙ not-false _ c.if-not-is_complete.false-raw) in record {
      order_of = (record { size = refl; full = λ i l. order.full i (omega (arith, order.size)) }, omega (arith, order.size, c.requires.0));
      by_index = λ i j e. omega (arith, order.size, c.requires.1 i j e);
    }
