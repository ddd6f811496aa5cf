-- The derived equality of words and of bits, under a name each.
use Rattle.std.specs.Prelude.{Bool}
use Rattle.flow_bits.specs.Types.{Word, Bits}
use Rattle.flow_bits.specs.contracts.words.WordPartialEq.TheImpl as word
use Rattle.flow_bits.specs.contracts.matches.BitsPartialEq.TheImpl as bits

abbrev pub word_equal : Word → Word → Bool
word_equal = (word.ghosts).eq

abbrev pub bits_equal : Bits → Bits → Bool
bits_equal = (bits.ghosts).eq
