-- The two checks of an order by the rows of happens-before: they are `check_order` (`check_rows`), and what a row holds is an event
-- (`rows_inside`). Assumes nothing.
use mathlib.Core.Path.{◌≡◌, refl, sym, ◌∙◌}
use mathlib.Core.Bool.{true}
use mathlib.Core.List.{List}
use Prim.Native.Nat.{ℕ, ◌<◌}
use native.Mathlib.Omega.{arith}
use lib.ListN.{length}
use Rattle.happens_before.specs.Causality.{before}
use Rattle.happens_before.specs.Inner.{bit, HappensBefore}
use Rattle.happens_before.proofs.Chains.{before_iff, chain_later}
use Rattle.order_check.specs.Types.{Event}
use Rattle.order_check.specs.Schedule.{check_by, check_order}
use Rattle.order_check.proofs.SearchLaws.{early_like}

module _ (delay : ℕ) (es : List Event) (rows : List (List ℕ)) (holds : HappensBefore delay es rows) where
  pub check_rows : (o : List ℕ) → check_by (bit rows) (length es) o ≡ check_order delay es o
  unfolding check_order
  check_rows o = rw (early_like (bit rows) (before delay es) holds 0 o) refl

  pub rows_inside : (i j : ℕ) → bit rows i j ≡ true → i < length es
  rows_inside i j e = let l = chain_later delay es ((before_iff delay es i j).0 (sym (holds i j) ∙ e)) in omega arith
