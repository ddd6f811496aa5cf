-- What an order is. Numbers compare by std's `nat_cmp`, lists by `slice_cmp`, and one comparison after another by `ordering_then`.
use Rattle.std.specs.Prelude.{◌≡◌}
use Rattle.std.specs.Ordering.{ordering_reverse}
use Rattle.flow.specs.Types.{Ordering}

abbrev pub opposite : Ordering → Ordering
opposite = ordering_reverse

-- a strict total order: equal only where the values are, opposite when swapped, transitive
pub record IsOrder (A : Type 0) (c : A → A → Ordering) : Type 0 where
  pub same : (a b : A) → c a b ≡ Ordering.Equal → a ≡ b
  pub self : (a : A) → c a a ≡ Ordering.Equal
  pub turn : (a b : A) → c b a ≡ opposite (c a b)
  pub chain : (a b d : A) → c a b ≡ Ordering.Less → c b d ≡ Ordering.Less → c a d ≡ Ordering.Less
