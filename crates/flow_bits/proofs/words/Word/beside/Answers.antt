use mathlib.Core.Path.{sym, subst}
use Prim.Native.Nat.{◌+◌}
use Rattle.flow_bits.specs.Inner.{InBits}
use Rattle.flow_bits.proofs.Joined.{side_lt, beside_is, joined_in_bits}
use Rattle.flow_bits.proofs.words.Word.beside.Goals as goal

pub overflow_add-result : goal.overflow_add-result
overflow_add-result c = record { fits = side_lt c.args.k c.args.self.value c.args.low.value c.requires.0 c.requires.1.0 c.requires.2.0 }

pub overflow_add-result-2 : goal.overflow_add-result-2
overflow_add-result-2 c = record { fits = side_lt c.args.k c.args.self.mask c.args.low.mask c.requires.0 c.requires.1.1 c.requires.2.1 }

pub returns : goal.returns
returns c =
    let e = beside_is c.args.k c.args.self c.args.low c.requires.0 c.requires.1 in
    (e, subst (InBits (c.args.k + c.args.k)) (sym e) (joined_in_bits c.args.k c.args.self c.args.low c.requires.1 c.requires.2))
