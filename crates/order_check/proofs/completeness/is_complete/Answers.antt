use Prim.Native.Nat.{ℕ, ◌<◌}
use native.Mathlib.Omega.{arith}
use mathlib.Core.Path.{◌≡◌, refl, sym, ◌∙◌}
use mathlib.Core.Bool.{false}
use lib.ListN.{length, get_or, take}
use lib.Seq.{length-take-le, get_or-take}
use borrow.Author.Rules.{rules}
use borrow.Author.Tests.{ne_eqb}
use Rattle.basics.specs.Searches.{has}
use Rattle.basics.proofs.Booleans.{both_ways}
use Rattle.order_check.specs.Schedule.{complete}
use Rattle.order_check.proofs.Flags.{complete_iff}
use Rattle.order_check.proofs.completeness.is_complete.Goals as goal

pub returns-then-order-n : goal.returns-then-order-n
returns-then-order-n c =
    let all = complete_iff c.args.n c.args.order.now in
    let size : length (take c.args.n c.flags_of.result) ≡ c.args.n = length-take-le c.args.n c.flags_of.result (search rules) in
    let each : (i : ℕ) → i < c.args.n → get_or (take c.args.n c.flags_of.result) i false ≡ has i c.args.order.now = λ i l. get_or-take c.args.n c.flags_of.result i false l ∙ c.flags_of.ensures i (omega (arith, c.requires)) in
    both_ways c.all_set.result (complete c.args.n c.args.order.now)
    (λ h. all.1 (record { size = c.if-order-n.true; full = λ i l. sym (each i l) ∙ c.all_set.ensures.0 h i (omega arith) }))
    (λ h. c.all_set.ensures.1 (λ i l. let m : i < c.args.n = omega arith in each i m ∙ (all.0 h).full i m))

pub returns-else-order-n : goal.returns-else-order-n
unfolding complete
returns-else-order-n c = rw (ne_eqb _ _ c.if-order-n.false) refl
