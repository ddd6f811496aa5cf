-- Inner: what commuting asks of an effect, and the document's table by that. For effects whose fields have the bits of their places it
-- is the table itself (proofs/Footprints.antt).
use Rattle.std.specs.Prelude.{Bool, true, ◌&&◌, ◌||◌, not, eqb}
use Rattle.flow.specs.Entries.{same_action}
use Rattle.flow_bits.specs.Inner.{bits_of, bits_overlap, bits_within, bits_same, exactly, Narrow}
use Rattle.commuting.specs.Types.{Action, Key, Effect, Word, EffectKind, Footprint}
use Rattle.commuting.specs.Commuting.{at}

abbrev pub printed : EffectKind → Key → Action → Footprint
printed kind k a = record { kind = kind; priority = k.priority; bits = bits_of k.pattern; action = a }

abbrev no_word : Word
no_word = record { value = 0; mask = 0 }

abbrev pub no_footprint : Footprint
no_footprint = record { kind = EffectKind.Idle; priority = 0; bits = record { first = no_word; second = no_word; third = no_word }; action = Action.Drop }

abbrev pub footprint_of : Effect → Footprint
footprint_of (Effect.Pkt p) = printed EffectKind.Pkt (at 0 (exactly p)) Action.Drop
footprint_of (Effect.Add k a) = printed EffectKind.Add k a
footprint_of (Effect.Addc k a) = printed EffectKind.Addc k a
footprint_of (Effect.Modn k a) = printed EffectKind.Modn k a
footprint_of (Effect.Dels k) = printed EffectKind.Dels k Action.Drop
footprint_of (Effect.Deln m) = printed EffectKind.Deln (at 0 m) Action.Drop
footprint_of Effect.Idle = no_footprint

-- each field has the bits of its place
abbrev pub NarrowEffect : Effect → Type 0
NarrowEffect (Effect.Pkt p) = Narrow (exactly p)
NarrowEffect (Effect.Add k a) = Narrow k.pattern
NarrowEffect (Effect.Addc k a) = Narrow k.pattern
NarrowEffect (Effect.Modn k a) = Narrow k.pattern
NarrowEffect (Effect.Dels k) = Narrow k.pattern
NarrowEffect (Effect.Deln m) = Narrow m
NarrowEffect Effect.Idle = Unit {0}

-- ---- the rows
unfoldable pub same_key_by : Footprint → Footprint → Bool
same_key_by j k = eqb j.priority k.priority && bits_same j.bits k.bits

unfoldable pub same_action_by : Footprint → Footprint → Bool
same_action_by j k = same_action j.action k.action

abbrev pub apart_by : Footprint → Footprint → Bool
apart_by j k = not (bits_overlap j.bits k.bits)

abbrev pub outside_by : Footprint → Footprint → Bool
outside_by j k = not (bits_within j.bits k.bits)

abbrev pub keys_differ_by : Footprint → Footprint → Bool
keys_differ_by j k = not (same_key_by j k)

abbrev pub add_add_by : Footprint → Footprint → Bool
add_add_by j k = not (same_key_by j k) || same_action_by j k

abbrev pub add_modn_by : Footprint → Footprint → Bool
add_modn_by j k = not (bits_within j.bits k.bits) || (same_key_by j k && same_action_by j k)

abbrev pub addc_other_by : Footprint → Footprint → Bool
addc_other_by j k = not (eqb j.priority k.priority) || not (bits_overlap j.bits k.bits)

abbrev pub addc_modn_by : Footprint → Footprint → Bool
addc_modn_by j k = not (bits_within j.bits k.bits) && addc_other_by j k

abbrev pub modn_modn_by : Footprint → Footprint → Bool
modn_modn_by j k =
    not (bits_overlap j.bits k.bits)
    || ((same_action_by j k && (not (bits_within j.bits k.bits) && not (bits_within k.bits j.bits)))
    || (same_key_by j k && same_action_by j k))

-- ---- which row is for which pair: the form of the first, and that of the second
abbrev pub packet_by : EffectKind → Footprint → Footprint → Bool
packet_by EffectKind.Idle j k = true
packet_by EffectKind.Pkt j k = true
packet_by EffectKind.Add j k = apart_by k j
packet_by EffectKind.Addc j k = apart_by k j
packet_by EffectKind.Modn j k = apart_by k j
packet_by EffectKind.Dels j k = apart_by k j
packet_by EffectKind.Deln j k = apart_by k j

abbrev pub add_by : EffectKind → Footprint → Footprint → Bool
add_by EffectKind.Idle j k = true
add_by EffectKind.Pkt j k = apart_by j k
add_by EffectKind.Add j k = add_add_by j k
add_by EffectKind.Addc j k = addc_other_by k j
add_by EffectKind.Modn j k = add_modn_by j k
add_by EffectKind.Dels j k = keys_differ_by j k
add_by EffectKind.Deln j k = outside_by j k

abbrev pub addc_by : EffectKind → Footprint → Footprint → Bool
addc_by EffectKind.Idle j k = true
addc_by EffectKind.Pkt j k = apart_by j k
addc_by EffectKind.Add j k = addc_other_by j k
addc_by EffectKind.Addc j k = addc_other_by j k
addc_by EffectKind.Modn j k = addc_modn_by j k
addc_by EffectKind.Dels j k = addc_other_by j k
addc_by EffectKind.Deln j k = apart_by j k

abbrev pub modn_by : EffectKind → Footprint → Footprint → Bool
modn_by EffectKind.Idle j k = true
modn_by EffectKind.Pkt j k = apart_by j k
modn_by EffectKind.Add j k = add_modn_by k j
modn_by EffectKind.Addc j k = addc_modn_by k j
modn_by EffectKind.Modn j k = modn_modn_by j k
modn_by EffectKind.Dels j k = outside_by k j
modn_by EffectKind.Deln j k = apart_by j k

abbrev pub dels_by : EffectKind → Footprint → Footprint → Bool
dels_by EffectKind.Idle j k = true
dels_by EffectKind.Pkt j k = apart_by j k
dels_by EffectKind.Add j k = keys_differ_by k j
dels_by EffectKind.Addc j k = addc_other_by k j
dels_by EffectKind.Modn j k = outside_by j k
dels_by EffectKind.Dels j k = true
dels_by EffectKind.Deln j k = true

abbrev pub deln_by : EffectKind → Footprint → Footprint → Bool
deln_by EffectKind.Idle j k = true
deln_by EffectKind.Pkt j k = apart_by j k
deln_by EffectKind.Add j k = outside_by k j
deln_by EffectKind.Addc j k = apart_by k j
deln_by EffectKind.Modn j k = apart_by k j
deln_by EffectKind.Dels j k = true
deln_by EffectKind.Deln j k = true

abbrev pub commute_by : EffectKind → Footprint → Footprint → Bool
commute_by EffectKind.Idle j k = true
commute_by EffectKind.Pkt j k = packet_by k.kind j k
commute_by EffectKind.Add j k = add_by k.kind j k
commute_by EffectKind.Addc j k = addc_by k.kind j k
commute_by EffectKind.Modn j k = modn_by k.kind j k
commute_by EffectKind.Dels j k = dels_by k.kind j k
commute_by EffectKind.Deln j k = deln_by k.kind j k

unfoldable pub footprints_commute : Footprint → Footprint → Bool
footprints_commute j k = commute_by j.kind j k
