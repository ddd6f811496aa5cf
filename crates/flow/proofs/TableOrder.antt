-- Table order says "before" exactly if document 01's words do: the first field of its sequence that differs decides. Assumes nothing.
use mathlib.Core.Path.{◌≡◌, refl, sym, ap}
use mathlib.Core.Logic.{◌↔◌}
use mathlib.Core.List.{List, [], ◌∷◌}
use Prim.Native.Nat.{ℕ, ◌<◌}
use native.Mathlib.Omega.{arith}
use Rattle.flow.specs.Types.{Exact, Key, Ordering}
use Rattle.std.specs.Ordering.{nat_cmp, ordering_then}
use Rattle.flow.specs.Entries.{exact_rank, rank, match_order, key_order}
use Rattle.flow.specs.TableOrder.{KeyField, sequence, Smaller, BeforeBy, SameIn, ByFirst, StandsBefore}
use Rattle.flow.proofs.Orders.{number_less, number_equal, less_number, equal_number}
use Rattle.flow.proofs.Entries.{exact_apart}

-- ---- one field
number_iff : (a b : ℕ) → (nat_cmp a b ≡ Ordering.Less) ↔ (a < b)
number_iff a b = (less_number a b, number_less)

same_number : (a b : ℕ) → (nat_cmp a b ≡ Ordering.Equal) ↔ (a ≡ b)
same_number a b = (equal_number a b, number_equal)

smaller_of : (a b : Exact) → exact_rank a < exact_rank b → Smaller a b
smaller_of Exact.Any Exact.Any h = absurd (omega arith)
smaller_of Exact.Any (Exact.Is n) h = Smaller.any_number
smaller_of (Exact.Is m) Exact.Any h = absurd (omega arith)
smaller_of (Exact.Is m) (Exact.Is n) h = let l : m < n = omega arith in Smaller.numbers l

is_smaller : {a b : Exact} → Smaller a b → exact_rank a < exact_rank b
is_smaller Smaller.any_number = omega arith
is_smaller (Smaller.numbers h) = omega arith

exact_iff : (a b : Exact) → (nat_cmp (exact_rank a) (exact_rank b) ≡ Ordering.Less) ↔ Smaller a b
exact_iff a b = (λ e. smaller_of a b (less_number (exact_rank a) (exact_rank b) e), λ s. number_less (is_smaller s))

same_exact_lem : (a b : Exact) → (nat_cmp (exact_rank a) (exact_rank b) ≡ Ordering.Equal) ↔ (a ≡ b)
same_exact_lem a b = (λ e. exact_apart a b (equal_number (exact_rank a) (exact_rank b) e), λ q. number_equal (ap exact_rank q))

-- ---- the fields in turn
module _ (j k : Key) where
  abbrev by : KeyField → Ordering
  by KeyField.priority = nat_cmp k.priority j.priority
  by KeyField.port = nat_cmp (exact_rank j.pattern.port) (exact_rank k.pattern.port)
  by KeyField.vlan = nat_cmp (exact_rank j.pattern.vlan) (exact_rank k.pattern.vlan)
  by KeyField.src_value = nat_cmp j.pattern.src.value k.pattern.src.value
  by KeyField.src_length = nat_cmp j.pattern.src.length k.pattern.src.length
  by KeyField.dst_value = nat_cmp j.pattern.dst.value k.pattern.dst.value
  by KeyField.dst_length = nat_cmp j.pattern.dst.length k.pattern.dst.length
  by KeyField.proto = nat_cmp (exact_rank j.pattern.proto) (exact_rank k.pattern.proto)
  by KeyField.sport = nat_cmp (exact_rank j.pattern.sport) (exact_rank k.pattern.sport)
  by KeyField.dport = nat_cmp (exact_rank j.pattern.dport) (exact_rank k.pattern.dport)

  before_iff : (f : KeyField) → (by f ≡ Ordering.Less) ↔ BeforeBy f j k
  before_iff KeyField.priority = number_iff k.priority j.priority
  before_iff KeyField.port = exact_iff j.pattern.port k.pattern.port
  before_iff KeyField.vlan = exact_iff j.pattern.vlan k.pattern.vlan
  before_iff KeyField.src_value = number_iff j.pattern.src.value k.pattern.src.value
  before_iff KeyField.src_length = number_iff j.pattern.src.length k.pattern.src.length
  before_iff KeyField.dst_value = number_iff j.pattern.dst.value k.pattern.dst.value
  before_iff KeyField.dst_length = number_iff j.pattern.dst.length k.pattern.dst.length
  before_iff KeyField.proto = exact_iff j.pattern.proto k.pattern.proto
  before_iff KeyField.sport = exact_iff j.pattern.sport k.pattern.sport
  before_iff KeyField.dport = exact_iff j.pattern.dport k.pattern.dport

  same_field : (f : KeyField) → (by f ≡ Ordering.Equal) ↔ SameIn f j k
  same_field KeyField.priority = (λ e. sym (equal_number k.priority j.priority e), λ q. number_equal (sym q))
  same_field KeyField.port = same_exact_lem j.pattern.port k.pattern.port
  same_field KeyField.vlan = same_exact_lem j.pattern.vlan k.pattern.vlan
  same_field KeyField.src_value = same_number j.pattern.src.value k.pattern.src.value
  same_field KeyField.src_length = same_number j.pattern.src.length k.pattern.src.length
  same_field KeyField.dst_value = same_number j.pattern.dst.value k.pattern.dst.value
  same_field KeyField.dst_length = same_number j.pattern.dst.length k.pattern.dst.length
  same_field KeyField.proto = same_exact_lem j.pattern.proto k.pattern.proto
  same_field KeyField.sport = same_exact_lem j.pattern.sport k.pattern.sport
  same_field KeyField.dport = same_exact_lem j.pattern.dport k.pattern.dport

  abbrev in_turn_by : List KeyField → Ordering
  in_turn_by [] = Ordering.Equal
  in_turn_by (f ∷ fs) = ordering_then (by f) (in_turn_by fs)

  decided : (fs : List KeyField) → in_turn_by fs ≡ Ordering.Less → ByFirst j k fs
  decided [] e = absurd (cc)
  decided (f ∷ fs) e = go (by f) refl e (decided fs)
    where
      go : (o : Ordering) → by f ≡ o → ordering_then o (in_turn_by fs) ≡ Ordering.Less → (in_turn_by fs ≡ Ordering.Less → ByFirst j k fs) → ByFirst j k (f ∷ fs)
      go Ordering.Less u e ih = ByFirst.here ((before_iff f).0 u)
      go Ordering.Equal u e ih = ByFirst.later ((same_field f).0 u) (ih e)
      go Ordering.Greater u e ih = absurd (cc)

  decides : {fs : List KeyField} → ByFirst j k fs → in_turn_by fs ≡ Ordering.Less
  decides (ByFirst.here {f = f} b) = rw ((before_iff f).1 b) refl
  decides (ByFirst.later {f = f} s b) = rw ((same_field f).1 s) (decides b)

  -- table order is document 01's
  pub key_order_iff : (key_order j k ≡ Ordering.Less) ↔ StandsBefore j k
  unfolding key_order match_order rank
  key_order_iff = (decided sequence, decides)
