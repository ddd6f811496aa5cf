-- Inner: what two overlapping matches share, a packet of a match, and tests field by field.
use Rattle.std.specs.Prelude.{Bool, ◌&&◌, cond, ℕ, eqb, leb}
use Rattle.std.specs.Int.Bits.{bit_and, bit_or}
use Rattle.flow.specs.Entries.{exact_rank}
use Rattle.flow.specs.Matches.{Masked, mask_of}
use Rattle.flow.specs.Types.{Exact, Prefix, Match, Packet}

-- what two that overlap have in common, and a value that fits
abbrev pub exact_meet : Exact → Exact → Exact
exact_meet Exact.Any b = b
exact_meet (Exact.Is a) b = Exact.Is a

abbrev pub exact_point : Exact → ℕ
exact_point Exact.Any = 0
exact_point (Exact.Is a) = a

abbrev pub masked_meet : Masked → Masked → Masked
masked_meet a b = record { value = bit_or (bit_and a.value a.mask) (bit_and b.value b.mask); mask = bit_or a.mask b.mask }

-- two addresses have the same leading bits, as many as a length says
abbrev pub same_leading : ℕ → ℕ → ℕ → Bool
same_leading v w n = eqb (bit_and v (mask_of n)) (bit_and w (mask_of n))

-- of two prefixes that overlap the longer is what they have in common
abbrev pub prefix_meet : Prefix → Prefix → Prefix
prefix_meet p q = cond (leb q.length p.length) p q

-- the packets that two overlapping matches share, as a match
unfoldable pub meet : Match → Match → Match
meet m n = record {
  port = exact_meet m.port n.port;
  vlan = exact_meet m.vlan n.vlan;
  src = prefix_meet m.src n.src;
  dst = prefix_meet m.dst n.dst;
  proto = exact_meet m.proto n.proto;
  sport = exact_meet m.sport n.sport;
  dport = exact_meet m.dport n.dport;
}

-- a packet of a match
unfoldable pub packet_of : Match → Packet
packet_of m = record {
  port = exact_point m.port;
  vlan = exact_point m.vlan;
  src = m.src.value;
  dst = m.dst.value;
  proto = exact_point m.proto;
  sport = exact_point m.sport;
  dport = exact_point m.dport;
}

-- the same match, field by field: table order finds no difference (proofs/Entries.antt)
abbrev pub same_exact : Exact → Exact → Bool
same_exact a b = eqb (exact_rank a) (exact_rank b)

abbrev pub same_prefix : Prefix → Prefix → Bool
same_prefix p q = eqb p.value q.value && eqb p.length q.length

unfoldable pub same_match : Match → Match → Bool
same_match m n =
    same_exact m.port n.port
    && (same_exact m.vlan n.vlan
    && (same_prefix m.src n.src
    && (same_prefix m.dst n.dst
    && (same_exact m.proto n.proto
    && (same_exact m.sport n.sport
    && same_exact m.dport n.dport)))))
