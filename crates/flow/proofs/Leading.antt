-- The tests of a match by leading bits, which compute on numbers; for matches in range they are the tests by masks. Assumes nothing.
use mathlib.Core.Path.{◌≡◌, refl}
use mathlib.Core.Bool.{Bool, false, ◌&&◌}
use Prim.Native.Nat.{◌/◌, ◌-◌, ◌^◌, min}
use lib.Dec.{eqb, leb}
use Rattle.flow.specs.Types.{Prefix, Match, Packet}
use Rattle.flow.specs.Matches.{exact_fits, exact_overlaps, exact_within, prefix_fits, fits, overlaps, within, MatchInRange}
use Rattle.basics.proofs.Booleans.{and_false_right}
use Rattle.flow.proofs.PrefixField.{prefix_overlaps_leading, prefix_within_leading}

abbrev leading_overlaps : Prefix → Prefix → Bool
leading_overlaps p q = eqb (p.value / 2 ^ (32 - min p.length q.length)) (q.value / 2 ^ (32 - min p.length q.length))

abbrev leading_within : Prefix → Prefix → Bool
leading_within p q = leb q.length p.length && eqb (p.value / 2 ^ (32 - q.length)) (q.value / 2 ^ (32 - q.length))

abbrev overlaps_by_bits : Match → Match → Bool
overlaps_by_bits m n =
    exact_overlaps m.port n.port
    && (exact_overlaps m.vlan n.vlan
    && (leading_overlaps m.src n.src
    && (leading_overlaps m.dst n.dst
    && (exact_overlaps m.proto n.proto
    && (exact_overlaps m.sport n.sport
    && exact_overlaps m.dport n.dport)))))

abbrev within_by_bits : Match → Match → Bool
within_by_bits m n =
    exact_within m.port n.port
    && (exact_within m.vlan n.vlan
    && (leading_within m.src n.src
    && (leading_within m.dst n.dst
    && (exact_within m.proto n.proto
    && (exact_within m.sport n.sport
    && exact_within m.dport n.dport)))))

module _ (m n : Match) (h : MatchInRange m) (k : MatchInRange n) where
  pub overlaps_by_bits_lem : overlaps m n ≡ overlaps_by_bits m n
  unfolding overlaps
  overlaps_by_bits_lem = rw (prefix_overlaps_leading m.src n.src h.src.value k.src.value, prefix_overlaps_leading m.dst n.dst h.dst.value k.dst.value)

  pub within_by_bits_lem : within m n ≡ within_by_bits m n
  unfolding within
  within_by_bits_lem = rw (prefix_within_leading m.src n.src h.src.value k.src.value k.src.length, prefix_within_leading m.dst n.dst h.dst.value k.dst.value k.dst.length)

-- a packet to another destination doesn't fit
pub other_destination : (m : Match) (p : Packet) → prefix_fits m.dst p.dst ≡ false → fits m p ≡ false
unfolding fits
other_destination m p e = and_false_right (exact_fits m.port p.port) (and_false_right (exact_fits m.vlan p.vlan) (and_false_right (prefix_fits m.src p.src) (rw e refl)))
