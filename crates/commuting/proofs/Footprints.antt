-- The table by footprints is the document's table: of effects whose fields have the bits of their places both say the same. Assumes
-- nothing.
use mathlib.Core.Path.{◌≡◌, refl, sym, ap, ap₂, ◌∙◌}
use mathlib.Core.Bool.{◌&&◌, not}
use lib.Dec.{eqb}
use borrow.Author.Tests.{eq-eqb, eqb-true}
use Rattle.basics.proofs.Booleans.{both_ways}
use Rattle.flow.specs.Entries.{same_key}
use Rattle.flow_bits.specs.Inner.{bits_of, bits_overlap, bits_same, exactly, Narrow}
use Rattle.flow_bits.proofs.ByWords.{overlaps_bits, within_bits, same_bits, fits_exactly}
use Rattle.flow.proofs.SameKey.{same_key_lem}
use Rattle.commuting.specs.Types.{Match, Packet, Key, Effect}
use Rattle.commuting.specs.Commuting.{pkt_write, commutes}
use Rattle.commuting.specs.InnerFootprints.{footprint_of, NarrowEffect, same_key_by, same_action_by, footprints_commute}

packet_apart : (p : Packet) (m : Match) → Narrow (exactly p) → Narrow m → not (bits_overlap (bits_of m) (bits_of (exactly p))) ≡ pkt_write p m
packet_apart p m h k = ap not (overlaps_bits m (exactly p) k h ∙ sym (fits_exactly m p))

keys_bits : (j k : Key) → Narrow j.pattern → Narrow k.pattern → (eqb j.priority k.priority && bits_same (bits_of j.pattern) (bits_of k.pattern)) ≡ same_key j k
keys_bits j k h g = ap₂ ◌&&◌ turned (same_bits j.pattern k.pattern h g) ∙ sym (same_key_lem j k)
  where
    turned : eqb j.priority k.priority ≡ eqb k.priority j.priority
    turned = both_ways (eqb j.priority k.priority) (eqb k.priority j.priority)
        (λ e. eq-eqb k.priority j.priority (sym (eqb-true j.priority k.priority e)))
        (λ e. eq-eqb j.priority k.priority (sym (eqb-true k.priority j.priority e)))

pub footprints_commute_lem : (v w : Effect) → NarrowEffect v → NarrowEffect w → footprints_commute (footprint_of v) (footprint_of w) ≡ commutes v w
unfolding footprints_commute same_key_by same_action_by commutes
footprints_commute_lem Effect.Idle w h g = refl
footprints_commute_lem (Effect.Pkt p) Effect.Idle h g = refl
footprints_commute_lem (Effect.Pkt p) (Effect.Pkt q) h g = refl
footprints_commute_lem (Effect.Pkt p) (Effect.Add k b) h g = packet_apart p k.pattern h g
footprints_commute_lem (Effect.Pkt p) (Effect.Addc k b) h g = packet_apart p k.pattern h g
footprints_commute_lem (Effect.Pkt p) (Effect.Modn k b) h g = packet_apart p k.pattern h g
footprints_commute_lem (Effect.Pkt p) (Effect.Dels k) h g = packet_apart p k.pattern h g
footprints_commute_lem (Effect.Pkt p) (Effect.Deln n) h g = packet_apart p n h g
footprints_commute_lem (Effect.Add j a) Effect.Idle h g = refl
footprints_commute_lem (Effect.Add j a) (Effect.Pkt q) h g = packet_apart q j.pattern g h
footprints_commute_lem (Effect.Add j a) (Effect.Add k b) h g = rw (keys_bits j k h g)
footprints_commute_lem (Effect.Add j a) (Effect.Addc k b) h g = rw (overlaps_bits k.pattern j.pattern g h)
footprints_commute_lem (Effect.Add j a) (Effect.Modn k b) h g = rw (within_bits j.pattern k.pattern h g, keys_bits j k h g)
footprints_commute_lem (Effect.Add j a) (Effect.Dels k) h g = rw (keys_bits j k h g)
footprints_commute_lem (Effect.Add j a) (Effect.Deln n) h g = rw (within_bits j.pattern n h g)
footprints_commute_lem (Effect.Addc j a) Effect.Idle h g = refl
footprints_commute_lem (Effect.Addc j a) (Effect.Pkt q) h g = packet_apart q j.pattern g h
footprints_commute_lem (Effect.Addc j a) (Effect.Add k b) h g = rw (overlaps_bits j.pattern k.pattern h g)
footprints_commute_lem (Effect.Addc j a) (Effect.Addc k b) h g = rw (overlaps_bits j.pattern k.pattern h g)
footprints_commute_lem (Effect.Addc j a) (Effect.Modn k b) h g = rw (within_bits j.pattern k.pattern h g, overlaps_bits j.pattern k.pattern h g)
footprints_commute_lem (Effect.Addc j a) (Effect.Dels k) h g = rw (overlaps_bits j.pattern k.pattern h g)
footprints_commute_lem (Effect.Addc j a) (Effect.Deln n) h g = rw (overlaps_bits j.pattern n h g)
footprints_commute_lem (Effect.Modn j a) Effect.Idle h g = refl
footprints_commute_lem (Effect.Modn j a) (Effect.Pkt q) h g = packet_apart q j.pattern g h
footprints_commute_lem (Effect.Modn j a) (Effect.Add k b) h g = rw (within_bits k.pattern j.pattern g h, keys_bits k j g h)
footprints_commute_lem (Effect.Modn j a) (Effect.Addc k b) h g = rw (within_bits k.pattern j.pattern g h, overlaps_bits k.pattern j.pattern g h)
footprints_commute_lem (Effect.Modn j a) (Effect.Modn k b) h g = rw (overlaps_bits j.pattern k.pattern h g, within_bits j.pattern k.pattern h g, within_bits k.pattern j.pattern g h, keys_bits j k h g)
footprints_commute_lem (Effect.Modn j a) (Effect.Dels k) h g = rw (within_bits k.pattern j.pattern g h)
footprints_commute_lem (Effect.Modn j a) (Effect.Deln n) h g = rw (overlaps_bits j.pattern n h g)
footprints_commute_lem (Effect.Dels j) Effect.Idle h g = refl
footprints_commute_lem (Effect.Dels j) (Effect.Pkt q) h g = packet_apart q j.pattern g h
footprints_commute_lem (Effect.Dels j) (Effect.Add k b) h g = rw (keys_bits k j g h)
footprints_commute_lem (Effect.Dels j) (Effect.Addc k b) h g = rw (overlaps_bits k.pattern j.pattern g h)
footprints_commute_lem (Effect.Dels j) (Effect.Modn k b) h g = rw (within_bits j.pattern k.pattern h g)
footprints_commute_lem (Effect.Dels j) (Effect.Dels k) h g = refl
footprints_commute_lem (Effect.Dels j) (Effect.Deln n) h g = refl
footprints_commute_lem (Effect.Deln m) Effect.Idle h g = refl
footprints_commute_lem (Effect.Deln m) (Effect.Pkt q) h g = packet_apart q m g h
footprints_commute_lem (Effect.Deln m) (Effect.Add k b) h g = rw (within_bits k.pattern m g h)
footprints_commute_lem (Effect.Deln m) (Effect.Addc k b) h g = rw (overlaps_bits k.pattern m g h)
footprints_commute_lem (Effect.Deln m) (Effect.Modn k b) h g = rw (overlaps_bits k.pattern m g h)
footprints_commute_lem (Effect.Deln m) (Effect.Dels k) h g = refl
footprints_commute_lem (Effect.Deln m) (Effect.Deln n) h g = refl
