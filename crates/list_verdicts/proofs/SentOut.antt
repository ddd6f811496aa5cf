-- For pairs and commuting a `pout` is a `pkt` of the same packet: with any other operation, either way round, it is of the same
-- kinds. Assumes nothing.
use Prim.Native.Nat.{ℕ}
use mathlib.Core.Path.{◌≡◌, refl}
use mathlib.Core.Bool.{Bool}
use Rattle.list_verdicts.specs.Types.{Packet, Origin, TableOperation, Operation}
use Rattle.list_verdicts.specs.Kinds.{Kind, pairs, ordered, commuting, listed, paired, is_kind}

module _ (w : ℕ) (p : Packet) (o : Operation) (h : Bool) where
  pub pout_first : (k : Kind) → is_kind k (Operation.Table w (TableOperation.Packet Origin.SentOut p)) o h ≡ is_kind k (Operation.Table w (TableOperation.Packet Origin.Received p)) o h
  unfolding paired
  pout_first pairs = refl
  pout_first ordered = refl
  pout_first commuting = refl
  pout_first listed = refl

  pub pout_second : (k : Kind) → is_kind k o (Operation.Table w (TableOperation.Packet Origin.SentOut p)) h ≡ is_kind k o (Operation.Table w (TableOperation.Packet Origin.Received p)) h
  unfolding paired
  pout_second pairs = refl
  pout_second ordered = refl
  pout_second commuting = refl
  pout_second listed = refl
