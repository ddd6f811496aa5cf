-- Inner: what a filter asks of a key, by its priority and the bits of its match. For matches whose fields have the bits of their places
-- it is the filter's test (proofs/AskingLaws.antt).
use Rattle.std.specs.Prelude.{◌≡◌, Bool, false, ◌&&◌, List, ℕ, ◌<◌, eqb, length, get_or}
use Rattle.flow_bits.specs.Inner.{bits_of, bits_overlap, bits_within, bits_same, exactly, Narrow}
use Rattle.slots_plan.specs.Types.{Row, Filter, Word, Bits, Question}

abbrev pub question_of : Filter → Question
question_of Filter.Nothing = Question.Nothing
question_of (Filter.Same k) = Question.Same k.priority (bits_of k.pattern)
question_of (Filter.Within m) = Question.Within (bits_of m)
question_of (Filter.Clash k) = Question.Clash k.priority (bits_of k.pattern)
question_of (Filter.Fits p) = Question.Fits (bits_of (exactly p))

abbrev pub asks : Question → ℕ → Bits → Bool
asks Question.Nothing p b = false
asks (Question.Same q c) p b = eqb p q && bits_same c b
asks (Question.Within c) p b = bits_within b c
asks (Question.Clash q c) p b = eqb q p && bits_overlap c b
asks (Question.Fits c) p b = bits_overlap b c

-- each field has the bits of its place
abbrev pub FilterNarrow : Filter → Type 0
FilterNarrow Filter.Nothing = Unit {0}
FilterNarrow (Filter.Same k) = Narrow k.pattern
FilterNarrow (Filter.Within m) = Narrow m
FilterNarrow (Filter.Clash k) = Narrow k.pattern
FilterNarrow (Filter.Fits p) = Narrow (exactly p)

-- ---- the bits of the slots
abbrev no_word : Word
no_word = record { value = 0; mask = 0 }

abbrev pub no_bits : Bits
no_bits = record { first = no_word; second = no_word; third = no_word }

-- the bits of a row's match, whose fields have the bits of their places
abbrev pub BitsFor : Row → Bits → Type 0
BitsFor x b = (b ≡ bits_of x.entry.key.pattern) × Narrow x.entry.key.pattern

abbrev pub Worded : List Row → List Bits → Type 0
Worded slots bits = (i : ℕ) (d : Row) → i < length slots → BitsFor (get_or slots i d) (get_or bits i no_bits)
