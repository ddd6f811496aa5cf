-- How long the texts are at most: of any values, for the writers, and of values in range, where `entry_most` is exact. Assumes nothing.
use Prim.Native.Nat.{ℕ, suc, ◌^◌, ◌≤◌}
use native.Mathlib.Omega.{arith}
use lib.ListN.{length, length-append}
use Rattle.text_numbers.proofs.Print.{print_short}
use Rattle.text_numbers.proofs.Writing.{print_length, hex_length}
use Rattle.flow.specs.Matches.{ExactInRange, PrefixInRange, MatchInRange}
use Rattle.flow.specs.Entries.{ActionInRange, EntryInRange}
use Rattle.text_fields.specs.Types.{Exact, Prefix, Match, Action, Key, Entry}
use Rattle.text_fields.specs.Print.{print_exact, print_prefix, print_last, print_fields, print_match, print_action, print_key, print_entry}

exact_length : (x : Exact) → length (print_exact x) ≤ 20
unfolding print_exact
exact_length Exact.Any = omega arith
exact_length (Exact.Is v) = print_length v

prefix_length : (p : Prefix) → length (print_prefix p) ≤ 29
unfolding print_prefix
prefix_length p = rw (length-append, hex_length) (omega (arith, print_length p.length))

match_length : (m : Match) → length (print_match m) ≤ 201
unfolding print_match print_fields print_last
match_length m = simp length-append (omega (
  arith,
  exact_length m.port,
  exact_length m.vlan,
  prefix_length m.src,
  prefix_length m.dst,
  exact_length m.proto,
  exact_length m.sport,
  exact_length m.dport,
))

pub action_length : (a : Action) → length (print_action a) ≤ 21
unfolding print_action
action_length Action.Drop = omega arith
action_length Action.Controller = omega arith
action_length (Action.Port n) = omega (arith, print_length n)

pub key_length : (k : Key) → length (print_key k) ≤ 227
unfolding print_key
key_length k = simp length-append (omega (arith, print_length k.priority, match_length k.pattern))

pub entry_length : (e : Entry) → length (print_entry e) ≤ 253
unfolding print_entry
entry_length e = simp length-append (omega (arith, key_length e.key, action_length e.action))

-- ---- of values in range
exact_most : (k w : ℕ) (x : Exact) → w ≤ 10 ^ suc k → ExactInRange w x → length (print_exact x) ≤ suc k
unfolding print_exact
exact_most k w Exact.Any b h = omega arith
exact_most k w (Exact.Is v) b h = print_short k v (omega arith)

prefix_most : (p : Prefix) → PrefixInRange p → length (print_prefix p) ≤ 11
unfolding print_prefix
prefix_most p h = let l = h.length in rw (length-append, hex_length) (omega (arith, print_short 1 p.length (omega arith)))

match_most : (m : Match) → MatchInRange m → length (print_match m) ≤ 87
unfolding print_match print_fields print_last
match_most m h = simp length-append (omega (
  arith,
  exact_most 4 65536 m.port (omega arith) h.port,
  exact_most 3 4096 m.vlan (omega arith) h.vlan,
  prefix_most m.src h.src,
  prefix_most m.dst h.dst,
  exact_most 2 256 m.proto (omega arith) h.proto,
  exact_most 4 65536 m.sport (omega arith) h.sport,
  exact_most 4 65536 m.dport (omega arith) h.dport,
))

pub action_most : (a : Action) → ActionInRange a → length (print_action a) ≤ 6
unfolding print_action
action_most Action.Drop h = omega arith
action_most Action.Controller h = omega arith
action_most (Action.Port n) h = omega (arith, print_short 4 n (omega arith))

pub entry_most : (e : Entry) → EntryInRange e → length (print_entry e) ≤ 109
unfolding print_entry print_key
entry_most e h =
    let l = h.key.priority in
    simp length-append (omega (arith, print_short 4 e.key.priority (omega arith), match_most e.key.pattern h.key.pattern, action_most e.action h.action))
