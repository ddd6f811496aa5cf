-- What each event does: the order of a table is kept, what is found at a key afterwards, at most one entry more, in its own switch's
-- table (`length_after`) and on all switches together (`held_step`). Assumes nothing.
use mathlib.Core.Path.{◌≡◌, refl, ap}
use mathlib.Core.Bool.{Bool, true, false, cond}
use mathlib.Core.List.{[], ◌∷◌}
use Prim.Native.Nat.{ℕ, suc, ◌+◌, ◌≤◌}
use native.Mathlib.Omega.{arith}
use lib.ListN.{length}
use borrow.Author.Tests.{eq-eqb, ne_eqb}
use Rattle.basics.proofs.Booleans.{split}
use Rattle.basics.proofs.Gathered.{sum_more}
use Rattle.flow.specs.Entries.{key_order, same_key}
use Rattle.flow_table.specs.Types.{Packet, Action, Key, Entry, Ordering, Origin, TableOperation, Operation, Effect}
use Rattle.flow_table.specs.FlowTable.{Table, entry, Sorted, insert_by, insert, remove_if, assign_if, any_of, inside, clash, table_effect, effect_of, after, get, found_after}
use Rattle.flow_table.specs.Switches.{Tables, entries_held, switch_of, step_of, answer_of}
use Rattle.flow_table.proofs.TableLaws.{sorted_insert, sorted_remove, sorted_assign, get_insert, get_remove, get_assign}

-- what the operations do, by the test that they make
module _ (k : Key) (a : Action) (t : Table) where
  pub addc_no : any_of (clash k) t ≡ true → after (Effect.Addc k a) t ≡ t
  unfolding after
  addc_no e = rw e refl

  pub addc_yes : any_of (clash k) t ≡ false → after (Effect.Addc k a) t ≡ insert k a t
  unfolding after
  addc_yes e = rw e refl

  pub modn_yes : any_of (inside k.pattern) t ≡ true → after (Effect.Modn k a) t ≡ assign_if (inside k.pattern) a t
  unfolding after
  modn_yes e = rw e refl

  pub modn_no : any_of (inside k.pattern) t ≡ false → after (Effect.Modn k a) t ≡ insert k a t
  unfolding after
  modn_no e = rw e refl

-- a table in order stays in order
pub sorted_after : (v : Effect) (t : Table) → Sorted t → Sorted (after v t)
unfolding after
sorted_after (Effect.Pkt p) t s = s
sorted_after (Effect.Add k a) t s = sorted_insert k a t s
sorted_after (Effect.Addc k a) t s = split (any_of (clash k) t) (λ e. rw e s) (λ e. rw e (sorted_insert k a t s))
sorted_after (Effect.Modn k a) t s = split (any_of (inside k.pattern) t) (λ e. rw e (sorted_assign (inside k.pattern) a t s)) (λ e. rw e (sorted_insert k a t s))
sorted_after (Effect.Dels k) t s = sorted_remove (same_key k) t s
sorted_after (Effect.Deln m) t s = sorted_remove (inside m) t s
sorted_after Effect.Idle t s = s

-- an operation adds at most one entry
length_insert : (k : Key) (a : Action) (t : Table) → length (insert k a t) ≤ suc (length t)
length_insert k a [] = omega arith
length_insert k a (e ∷ t) = go (key_order k e.key) (length_insert k a t)
  where
    go : (o : Ordering) → length (insert k a t) ≤ suc (length t) → length (insert_by o (entry k a) e t (insert k a t)) ≤ suc (suc (length t))
    go Ordering.Less ih = omega arith
    go Ordering.Equal ih = omega arith
    go Ordering.Greater ih = omega arith

pub length_remove : (p : Key → Bool) (t : Table) → length (remove_if p t) ≤ length t
length_remove p [] = omega arith
length_remove p (e ∷ t) = go (p e.key) (length_remove p t)
  where
    go : (b : Bool) → length (remove_if p t) ≤ length t → length (cond b (remove_if p t) (e ∷ remove_if p t)) ≤ suc (length t)
    go true ih = omega arith
    go false ih = omega arith

length_assign : (p : Key → Bool) (a : Action) (t : Table) → length (assign_if p a t) ≡ length t
length_assign p a [] = refl
length_assign p a (e ∷ t) = ap suc (length_assign p a t)

pub length_after : (v : Effect) (t : Table) → length (after v t) ≤ suc (length t)
unfolding after
length_after (Effect.Pkt p) t = omega arith
length_after (Effect.Add k a) t = length_insert k a t
length_after (Effect.Addc k a) t = split (any_of (clash k) t) (λ e. rw e (omega arith)) (λ e. rw e (length_insert k a t))
length_after (Effect.Modn k a) t = split (any_of (inside k.pattern) t) (λ e. rw e (omega (arith, length_assign (inside k.pattern) a t))) (λ e. rw e (length_insert k a t))
length_after (Effect.Dels k) t = omega (arith, length_remove (same_key k) t)
length_after (Effect.Deln m) t = omega (arith, length_remove (inside m) t)
length_after Effect.Idle t = omega arith

-- on all switches together
pub held_step : (n : ℕ) (o : Operation) (s : Tables) → entries_held n (step_of o s) ≤ entries_held n s + 1
unfolding entries_held step_of
held_step n o s =
    sum_more (λ w. length (step_of o s w)) (λ w. length (s w)) (switch_of o) 1
    (λ w ne. rw (ne_eqb w (switch_of o) ne) refl)
    (rw (eq-eqb (switch_of o) (switch_of o) refl) (omega (arith, length_after (effect_of o) (s (switch_of o)))))
    n

-- what is found at a key after an event
pub get_after : (v : Effect) (k : Key) (t : Table) → get k (after v t) ≡ found_after v k t
unfolding after found_after
get_after (Effect.Pkt p) k t = refl
get_after (Effect.Add j a) k t = get_insert k j a t
get_after (Effect.Addc j a) k t = split (any_of (clash j) t) (λ e. rw e refl) (λ e. rw e (get_insert k j a t))
get_after (Effect.Modn j a) k t = split (any_of (inside j.pattern) t) (λ e. rw e (get_assign k (inside j.pattern) a t)) (λ e. rw e (get_insert k j a t))
get_after (Effect.Dels j) k t = get_remove k (same_key j) t
get_after (Effect.Deln m) k t = get_remove k (inside m) t
get_after Effect.Idle k t = refl

-- `mods` reads as `add`
pub mods_is_add : (e : Entry) → table_effect (TableOperation.ModifyStrict e) ≡ table_effect (TableOperation.Add e)
mods_is_add e = refl

-- `pout` reads as `pkt`: on every switch, whatever the tables, it leaves and answers what a `pkt` of the same packet does
pub pout_is_pkt : (p : Packet) → table_effect (TableOperation.Packet Origin.SentOut p) ≡ table_effect (TableOperation.Packet Origin.Received p)
pout_is_pkt p = refl

module _ (w : ℕ) (p : Packet) (s : Tables) where
  pub pout_steps : step_of (Operation.Table w (TableOperation.Packet Origin.SentOut p)) s ≡ step_of (Operation.Table w (TableOperation.Packet Origin.Received p)) s
  unfolding step_of
  pout_steps = refl

  pub pout_answers : answer_of (Operation.Table w (TableOperation.Packet Origin.SentOut p)) s ≡ answer_of (Operation.Table w (TableOperation.Packet Origin.Received p)) s
  unfolding answer_of
  pout_answers = refl
