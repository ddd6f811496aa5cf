-- The derived equality of words compares value and mask, that of bits word by word. Assumes nothing.
use mathlib.Core.Path.{◌≡◌, refl}
use Rattle.flow_bits.specs.Types.{Word, Bits}
use Rattle.flow_bits.specs.Inner.{word_same, bits_same}
use Rattle.flow_bits.specs.Derived.{word_equal, bits_equal}

pub same_word : (a b : Word) → word_equal a b ≡ word_same a b
same_word a b = refl

pub same_words : (a b : Bits) → bits_equal a b ≡ bits_same a b
unfolding bits_same
same_words a b = refl
