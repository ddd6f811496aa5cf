-- Document 01, "Flow table": keys, actions, entries, and the order of a table. That it is a strict total order of the keys is
-- proved in proofs/Entries.antt.
use Rattle.std.specs.Prelude.{Bool, true, false, List, [], ◌∷◌, ℕ, ◌+◌, ◌<◌, eqb}
use Rattle.std.specs.Ordering.{nat_cmp, ordering_then}
use Rattle.std.specs.Cmp.Lexicographic.{slice_cmp}
use Rattle.flow.specs.Types.{Exact, Match, Action, Key, Entry, Ordering}
use Rattle.flow.specs.Matches.{MatchInRange}

-- `*` before numbers
abbrev pub exact_rank : Exact → ℕ
exact_rank Exact.Any = 0
exact_rank (Exact.Is a) = a + 1

-- what table order compares of a match, in its order
unfoldable pub rank : Match → List ℕ
rank m =
    exact_rank m.port
    ∷ exact_rank m.vlan
    ∷ m.src.value ∷ m.src.length
    ∷ m.dst.value ∷ m.dst.length
    ∷ exact_rank m.proto
    ∷ exact_rank m.sport
    ∷ exact_rank m.dport
    ∷ []

unfoldable pub match_order : Match → Match → Ordering
match_order m n = slice_cmp nat_cmp (rank m) (rank n)

-- table order: priority falling, then the match rising
unfoldable pub key_order : Key → Key → Ordering
key_order j k = ordering_then (nat_cmp k.priority j.priority) (match_order j.pattern k.pattern)

abbrev pub is_equal : Ordering → Bool
is_equal Ordering.Less = false
is_equal Ordering.Equal = true
is_equal Ordering.Greater = false

-- the same key
unfoldable pub same_key : Key → Key → Bool
same_key j k = is_equal (key_order j k)

-- a number for each action; the same action
abbrev pub action_code : Action → ℕ
action_code Action.Drop = 0
action_code Action.Controller = 1
action_code (Action.Port n) = n + 2

unfoldable pub same_action : Action → Action → Bool
same_action a b = eqb (action_code a) (action_code b)

-- ranges: priority and port 0 to 65535
pub record KeyInRange (k : Key) : Type 0 where
  pub priority : k.priority < 65536
  pub pattern : MatchInRange k.pattern

abbrev pub ActionInRange : Action → Type 0
ActionInRange Action.Drop = Unit {0}
ActionInRange Action.Controller = Unit {0}
ActionInRange (Action.Port n) = n < 65536

pub record EntryInRange (e : Entry) : Type 0 where
  pub key : KeyInRange e.key
  pub action : ActionInRange e.action
