-- Commuting as document 01 states it: the test says yes exactly if both orders agree on every table, and where it says no a table
-- in range of at most one entry shows it. Assumes nothing.
use mathlib.Core.Path.{◌≡◌, refl}
use mathlib.Core.Logic.{◌↔◌}
use mathlib.Core.Bool.{Bool, true, false, cond}
use mathlib.Core.List.{[]}
use Prim.Native.Nat.{ℕ, ◌≤◌}
use native.Mathlib.Omega.{arith}
use lib.ListN.{length}
use Rattle.flow.specs.Matches.{MatchInRange}
use Rattle.flow.specs.Inner.{meet}
use Rattle.flow.specs.Entries.{same_action, KeyInRange}
use Rattle.basics.proofs.Booleans.{split, both_ways}
use Rattle.flow.proofs.Matches.{match_field}
use Rattle.flow_table.specs.FlowTable.{Table, Sorted, TableInRange, effect_of, EffectInRange}
use Rattle.commuting.specs.Types.{Match, Key, Operation, Effect}
use Rattle.commuting.specs.Commuting.{Agree, Commute, commutes, at, Told}
use Rattle.commuting.specs.Inner.{one, witness}
use Rattle.commuting.proofs.Sound.{commutes_sound, agree_sym}
use Rattle.commuting.proofs.Exact.{commutes_exact}

-- a table of at most one entry, in order; in range where what it is made of is
record Small (range : Type 0) (t : Table) : Type 0 where
  sorted : Sorted t
  small : length t ≤ 1
  in_range : range → TableInRange t

none_small : {range : Type 0} → Small range []
none_small = record { sorted = tt; small = omega arith; in_range = λ h. tt }

one_small : {range : Type 0} (k : Key) → (range → KeyInRange k) → Small range (one k)
one_small k h = record { sorted = (tt, tt); small = omega arith; in_range = λ r. (record { key = h r; action = tt }, tt) }

at_zero : (m : Match) → MatchInRange m → KeyInRange (at 0 m)
at_zero m h = record { priority = omega arith; pattern = h }

meet_in_range : (m n : Match) → MatchInRange m → MatchInRange n → MatchInRange (meet m n)
meet_in_range m n h k = match_field.meet_ok m n h k

witness_small : (v w : Effect) → Small (EffectInRange v × EffectInRange w) (witness v w)
unfolding witness
witness_small Effect.Idle w = none_small
witness_small (Effect.Pkt p) Effect.Idle = none_small
witness_small (Effect.Pkt p) (Effect.Pkt q) = none_small
witness_small (Effect.Pkt p) (Effect.Add j b) = none_small
witness_small (Effect.Pkt p) (Effect.Addc j b) = none_small
witness_small (Effect.Pkt p) (Effect.Modn j b) = none_small
witness_small (Effect.Pkt p) (Effect.Dels j) = one_small j (λ r. r.1)
witness_small (Effect.Pkt p) (Effect.Deln m) = one_small (at 0 m) (λ r. at_zero m r.1)
witness_small (Effect.Add i a) w = none_small
witness_small (Effect.Addc i a) Effect.Idle = none_small
witness_small (Effect.Addc i a) (Effect.Pkt p) = none_small
witness_small (Effect.Addc i a) (Effect.Add j b) = none_small
witness_small (Effect.Addc i a) (Effect.Addc j b) = none_small
witness_small (Effect.Addc i a) (Effect.Modn j b) = none_small
witness_small (Effect.Addc i a) (Effect.Dels j) = one_small j (λ r. r.1)
witness_small (Effect.Addc i a) (Effect.Deln m) =
    one_small (at i.priority (meet i.pattern m)) (λ r. record { priority = r.0.0.priority; pattern = meet_in_range i.pattern m r.0.0.pattern r.1 })
witness_small (Effect.Modn i a) Effect.Idle = none_small
witness_small (Effect.Modn i a) (Effect.Pkt p) = none_small
witness_small (Effect.Modn i a) (Effect.Add j b) = none_small
witness_small (Effect.Modn i a) (Effect.Addc j b) = none_small
witness_small (Effect.Modn i a) (Effect.Modn j b) = go (same_action a b)
  where
    go : (c : Bool) → Small (EffectInRange (Effect.Modn i a) × EffectInRange (Effect.Modn j b)) (cond c [] (one (at 0 (meet i.pattern j.pattern))))
    go true = none_small
    go false = one_small (at 0 (meet i.pattern j.pattern)) (λ r. at_zero (meet i.pattern j.pattern) (meet_in_range i.pattern j.pattern r.0.0.pattern r.1.0.pattern))
witness_small (Effect.Modn i a) (Effect.Dels j) = one_small j (λ r. r.1)
witness_small (Effect.Modn i a) (Effect.Deln m) = one_small (at 0 (meet i.pattern m)) (λ r. at_zero (meet i.pattern m) (meet_in_range i.pattern m r.0.0.pattern r.1))
witness_small (Effect.Dels i) Effect.Idle = none_small
witness_small (Effect.Dels i) (Effect.Pkt p) = one_small i (λ r. r.0)
witness_small (Effect.Dels i) (Effect.Add j b) = none_small
witness_small (Effect.Dels i) (Effect.Addc j b) = one_small i (λ r. r.0)
witness_small (Effect.Dels i) (Effect.Modn j b) = one_small i (λ r. r.0)
witness_small (Effect.Dels i) (Effect.Dels j) = none_small
witness_small (Effect.Dels i) (Effect.Deln m) = none_small
witness_small (Effect.Deln m) Effect.Idle = none_small
witness_small (Effect.Deln m) (Effect.Pkt p) = one_small (at 0 m) (λ r. at_zero m r.0)
witness_small (Effect.Deln m) (Effect.Add j b) = none_small
witness_small (Effect.Deln m) (Effect.Addc j b) =
    one_small (at j.priority (meet j.pattern m)) (λ r. record { priority = r.1.0.priority; pattern = meet_in_range j.pattern m r.1.0.pattern r.0 })
witness_small (Effect.Deln m) (Effect.Modn j b) = one_small (at 0 (meet j.pattern m)) (λ r. at_zero (meet j.pattern m) (meet_in_range j.pattern m r.1.0.pattern r.0))
witness_small (Effect.Deln m) (Effect.Dels j) = none_small
witness_small (Effect.Deln m) (Effect.Deln n) = none_small

-- where the test says no, the witness tells the two orders apart; it is in order, in range and of at most one entry
pub told : (v w : Effect) → EffectInRange v → EffectInRange w → commutes v w ≡ false → Told v w (witness v w)
told v w h k e = let s = witness_small v w in record { sorted = s.sorted; in_range = s.in_range (h, k); small = s.small; apart = commutes_exact v w e }

-- the test says yes exactly if on EVERY table both orders leave the same table and give each event the same answer
pub commutes_iff : (v w : Effect) → (commutes v w ≡ true) ↔ Commute v w
commutes_iff v w = (
  λ e t s. commutes_sound t s v w e,
  λ f. split (commutes v w) (λ e. e) (λ e. absurd (commutes_exact v w e (f (witness v w) (witness_small v w).sorted))),
)

-- of events in range: exactly if they agree on every table in range
pub commutes_in_range : (v w : Effect) → EffectInRange v → EffectInRange w → (commutes v w ≡ true) ↔ ((t : Table) → Sorted t → TableInRange t → Agree v w t)
commutes_in_range v w h k = (
  λ e t s r. commutes_sound t s v w e,
  λ f. split (commutes v w) (λ e. e) (λ e. let x = told v w h k e in absurd (x.apart (f (witness v w) x.sorted x.in_range))),
)

-- either way round
pub commutes_sym : (v w : Effect) → commutes v w ≡ commutes w v
commutes_sym v w = both_ways (commutes v w) (commutes w v) (turned v w) (turned w v)
  where
    turned : (v w : Effect) → commutes v w ≡ true → commutes w v ≡ true
    turned v w e = (commutes_iff w v).1 (λ t s. agree_sym ((commutes_iff v w).0 e t s))

-- an event that uses no table commutes with everything
pub idle_commutes : (w : Effect) → commutes Effect.Idle w ≡ true
unfolding commutes
idle_commutes w = refl

-- so do `bar`, `msg` and `oth`
pub other_commutes : (w : Effect) → commutes (effect_of Operation.Other) w ≡ true
other_commutes w = idle_commutes w

pub barrier_commutes : (s : ℕ) (w : Effect) → commutes (effect_of (Operation.Barrier s)) w ≡ true
barrier_commutes s w = idle_commutes w

pub message_commutes : (s : ℕ) (w : Effect) → commutes (effect_of (Operation.Message s)) w ≡ true
message_commutes s w = idle_commutes w
