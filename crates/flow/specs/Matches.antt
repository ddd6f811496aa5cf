-- Document 01, "Matches": which packets fit a match, overlap, within. Each test is pinned by what it stands for: `FitsAll`,
-- `Overlap` and `LiesWithin` below, with the theorems in proofs/Fits.antt and proofs/Matches.antt.
use Rattle.std.specs.Prelude.{◌≡◌, Bool, true, false, ◌&&◌, ℕ, ◌-◌, ◌/◌, ◌^◌, ◌≤◌, ◌<◌, eqb}
use Rattle.std.specs.Int.Bits.{bit_and}
use Rattle.flow.specs.Types.{Exact, Prefix, Match, Packet}

-- a field that is `*` or a number: does a value fit, do two overlap, does one lie within another
abbrev pub exact_fits : Exact → ℕ → Bool
exact_fits Exact.Any x = true
exact_fits (Exact.Is a) x = eqb a x

abbrev pub exact_overlaps : Exact → Exact → Bool
exact_overlaps Exact.Any b = true
exact_overlaps (Exact.Is a) Exact.Any = true
exact_overlaps (Exact.Is a) (Exact.Is b) = eqb a b

abbrev pub exact_within : Exact → Exact → Bool
exact_within a Exact.Any = true
exact_within Exact.Any (Exact.Is b) = false
exact_within (Exact.Is a) (Exact.Is b) = eqb a b

-- an address of which the bits of a mask count, any mask
abbrev pub Masked : Type 0
Masked = record { value : ℕ; mask : ℕ }

abbrev pub masked_fits : Masked → ℕ → Bool
masked_fits a x = eqb (bit_and x a.mask) (bit_and a.value a.mask)

abbrev pub masked_overlaps : Masked → Masked → Bool
masked_overlaps a b = eqb (bit_and a.value (bit_and a.mask b.mask)) (bit_and b.value (bit_and a.mask b.mask))

abbrev pub masked_within : Masked → Masked → Bool
masked_within a b = eqb (bit_and a.mask b.mask) b.mask && eqb (bit_and a.value b.mask) (bit_and b.value b.mask)

-- no bit of the value stands outside the mask
abbrev pub masked_clear : Masked → Bool
masked_clear a = eqb (bit_and a.value a.mask) a.value

-- the mask of a prefix length: as many ones, then zeros, 32 in all; a length over 32 counts as 32
unfoldable pub mask_of : ℕ → ℕ
mask_of n = 2 ^ 32 - 2 ^ (32 - n)

abbrev pub masked_of : Prefix → Masked
masked_of p = record { value = p.value; mask = mask_of p.length }

abbrev pub prefix_fits : Prefix → ℕ → Bool
prefix_fits p x = masked_fits (masked_of p) x

abbrev pub prefix_overlaps : Prefix → Prefix → Bool
prefix_overlaps p q = masked_overlaps (masked_of p) (masked_of q)

abbrev pub prefix_within : Prefix → Prefix → Bool
prefix_within p q = masked_within (masked_of p) (masked_of q)

-- no address bit stands past the length
abbrev pub prefix_clear : Prefix → Bool
prefix_clear p = masked_clear (masked_of p)

-- the match: all seven fields
unfoldable pub fits : Match → Packet → Bool
fits m p =
    exact_fits m.port p.port
    && (exact_fits m.vlan p.vlan
    && (prefix_fits m.src p.src
    && (prefix_fits m.dst p.dst
    && (exact_fits m.proto p.proto
    && (exact_fits m.sport p.sport
    && exact_fits m.dport p.dport)))))

unfoldable pub overlaps : Match → Match → Bool
overlaps m n =
    exact_overlaps m.port n.port
    && (exact_overlaps m.vlan n.vlan
    && (prefix_overlaps m.src n.src
    && (prefix_overlaps m.dst n.dst
    && (exact_overlaps m.proto n.proto
    && (exact_overlaps m.sport n.sport
    && exact_overlaps m.dport n.dport)))))

unfoldable pub within : Match → Match → Bool
within m n =
    exact_within m.port n.port
    && (exact_within m.vlan n.vlan
    && (prefix_within m.src n.src
    && (prefix_within m.dst n.dst
    && (exact_within m.proto n.proto
    && (exact_within m.sport n.sport
    && exact_within m.dport n.dport)))))

unfoldable pub clear : Match → Bool
clear m = prefix_clear m.src && prefix_clear m.dst

-- ranges: port, sport, dport 0 to 65535; vlan 0 to 4095; proto 0 to 255; addresses of 32 bits; lengths 0 to 32, bits past the length zero
abbrev pub ExactInRange : ℕ → Exact → Type 0
ExactInRange w Exact.Any = Unit {0}
ExactInRange w (Exact.Is a) = a < w

pub record PrefixInRange (p : Prefix) : Type 0 where
  pub value : p.value < 2 ^ 32
  pub length : p.length ≤ 32
  pub clear : prefix_clear p ≡ true

pub record MatchInRange (m : Match) : Type 0 where
  pub port : ExactInRange 65536 m.port
  pub vlan : ExactInRange 4096 m.vlan
  pub src : PrefixInRange m.src
  pub dst : PrefixInRange m.dst
  pub proto : ExactInRange 256 m.proto
  pub sport : ExactInRange 65536 m.sport
  pub dport : ExactInRange 65536 m.dport

pub record PacketInRange (p : Packet) : Type 0 where
  pub port : p.port < 65536
  pub vlan : p.vlan < 4096
  pub src : p.src < 2 ^ 32
  pub dst : p.dst < 2 ^ 32
  pub proto : p.proto < 256
  pub sport : p.sport < 65536
  pub dport : p.dport < 65536

-- ---- in words (proofs/Fits.antt, `Fits-iff`; proofs/Matches.antt)
-- `*` admits all, a number itself
pub data Admits : Exact → ℕ → Type 0 where
  any : {x : ℕ} → Admits Exact.Any x
  itself : {x : ℕ} → Admits (Exact.Is x) x

-- the address has the prefix's leading bits, as many as its length says
abbrev pub HasPrefix : Prefix → ℕ → Type 0
HasPrefix p x = x / 2 ^ (32 - p.length) ≡ p.value / 2 ^ (32 - p.length)

-- a packet fits a match in all seven fields
pub record FitsAll (m : Match) (p : Packet) : Type 0 where
  pub port : Admits m.port p.port
  pub vlan : Admits m.vlan p.vlan
  pub src : HasPrefix m.src p.src
  pub dst : HasPrefix m.dst p.dst
  pub proto : Admits m.proto p.proto
  pub sport : Admits m.sport p.sport
  pub dport : Admits m.dport p.dport

-- two matches overlap if some packet fits both
abbrev pub Overlap : Match → Match → Type 0
Overlap m n = (p : Packet) × PacketInRange p × (fits m p ≡ true) × (fits n p ≡ true)

-- one lies within another if every packet of it fits the other
abbrev pub LiesWithin : Match → Match → Type 0
LiesWithin m n = (p : Packet) → PacketInRange p → fits m p ≡ true → fits n p ≡ true
