-- Inner: a match as three words of bits, each with a mask of those that count. For matches whose fields have the bits of their
-- places the tests by words are those field by field (proofs/ByWords.antt).
use Rattle.std.specs.Prelude.{Bool, ◌&&◌, ℕ, ◌+◌, ◌*◌, ◌^◌, ◌<◌, eqb}
use Rattle.flow_bits.specs.Types.{Exact, Prefix, Match, Packet, Word, Bits}
use Rattle.flow.specs.Matches.{Masked, masked_overlaps, masked_within, mask_of}

abbrev pub masked_word : Word → Masked
masked_word w = record { value = w.value; mask = w.mask }

abbrev pub word_overlaps : Word → Word → Bool
word_overlaps a b = masked_overlaps (masked_word a) (masked_word b)

abbrev pub word_within : Word → Word → Bool
word_within a b = masked_within (masked_word a) (masked_word b)

abbrev pub word_same : Word → Word → Bool
word_same a b = eqb a.value b.value && eqb a.mask b.mask

-- the bits of one word above the k bits of another
abbrev pub joined : ℕ → Word → Word → Word
joined k a b = record { value = a.value * 2 ^ k + b.value; mask = a.mask * 2 ^ k + b.mask }

-- a word of k bits
abbrev pub InBits : ℕ → Word → Type 0
InBits k w = (w.value < 2 ^ k) × (w.mask < 2 ^ k)

-- ---- the fields: all bits of a number count, none of `*`, the leading bits of an address
abbrev pub exact_word : Exact → Word
exact_word Exact.Any = record { value = 0; mask = 0 }
exact_word (Exact.Is a) = record { value = a; mask = 65535 }

abbrev pub prefix_word : Prefix → Word
prefix_word p = record { value = p.value; mask = mask_of p.length }

-- a length, which counts only where two matches are the same
abbrev pub length_word : Prefix → Word
length_word p = record { value = p.length; mask = 0 }

-- ---- the match
unfoldable pub first_word : Match → Word
first_word m = joined 32 (joined 16 (exact_word m.port) (exact_word m.vlan)) (prefix_word m.src)

unfoldable pub second_word : Match → Word
second_word m = joined 32 (prefix_word m.dst) (joined 16 (exact_word m.proto) (exact_word m.sport))

unfoldable pub third_word : Match → Word
third_word m = joined 16 (joined 8 (length_word m.src) (length_word m.dst)) (exact_word m.dport)

unfoldable pub bits_of : Match → Bits
bits_of m = record { first = first_word m; second = second_word m; third = third_word m }

unfoldable pub bits_overlap : Bits → Bits → Bool
bits_overlap a b = word_overlaps a.first b.first && (word_overlaps a.second b.second && word_overlaps a.third b.third)

unfoldable pub bits_within : Bits → Bits → Bool
bits_within a b = word_within a.first b.first && (word_within a.second b.second && word_within a.third b.third)

unfoldable pub bits_same : Bits → Bits → Bool
bits_same a b = word_same a.first b.first && (word_same a.second b.second && word_same a.third b.third)

-- each field has the bits of its place
pub record NarrowFirst (m : Match) : Type 0 where
  pub port : InBits 16 (exact_word m.port)
  pub vlan : InBits 16 (exact_word m.vlan)
  pub src : InBits 32 (prefix_word m.src)

pub record NarrowSecond (m : Match) : Type 0 where
  pub dst : InBits 32 (prefix_word m.dst)
  pub proto : InBits 16 (exact_word m.proto)
  pub sport : InBits 16 (exact_word m.sport)

pub record NarrowThird (m : Match) : Type 0 where
  pub src_length : InBits 8 (length_word m.src)
  pub dst_length : InBits 8 (length_word m.dst)
  pub dport : InBits 16 (exact_word m.dport)

pub record Narrow (m : Match) : Type 0 where
  pub first : NarrowFirst m
  pub second : NarrowSecond m
  pub third : NarrowThird m

-- the match that just one packet fits
unfoldable pub exactly : Packet → Match
exactly p = record {
  port = Exact.Is p.port;
  vlan = Exact.Is p.vlan;
  src = record { value = p.src; length = 32 };
  dst = record { value = p.dst; length = 32 };
  proto = Exact.Is p.proto;
  sport = Exact.Is p.sport;
  dport = Exact.Is p.dport;
}
