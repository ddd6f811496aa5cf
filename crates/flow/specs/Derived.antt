-- The derived equality and order of actions, fields, matches and keys, under a name each.
use Rattle.std.specs.Prelude.{Bool}
use Rattle.flow.specs.Types.{Exact, Prefix, Match, Action, Key, Ordering}
use Rattle.flow.specs.contracts.action.ActionPartialEq.TheImpl as action
use Rattle.flow.specs.contracts.exact.ExactPartialEq.TheImpl as exact
use Rattle.flow.specs.contracts.exact.ExactOrd.TheImpl as exact_ord
use Rattle.flow.specs.contracts.prefix.PrefixPartialEq.TheImpl as prefix
use Rattle.flow.specs.contracts.prefix.PrefixOrd.TheImpl as prefix_ord
use Rattle.flow.specs.contracts.matching.MatchPartialEq.TheImpl as matching
use Rattle.flow.specs.contracts.matching.MatchOrd.TheImpl as matching_ord
use Rattle.flow.specs.contracts.entry.KeyPartialEq.TheImpl as key

abbrev pub action_equal : Action → Action → Bool
action_equal = (action.ghosts).eq

abbrev pub exact_equal : Exact → Exact → Bool
exact_equal = (exact.ghosts).eq

abbrev pub exact_cmp : Exact → Exact → Ordering
exact_cmp = (exact_ord.ghosts).cmp

abbrev pub prefix_equal : Prefix → Prefix → Bool
prefix_equal = (prefix.ghosts).eq

abbrev pub prefix_cmp : Prefix → Prefix → Ordering
prefix_cmp = (prefix_ord.ghosts).cmp

abbrev pub match_equal : Match → Match → Bool
match_equal = (matching.ghosts).eq

abbrev pub match_cmp : Match → Match → Ordering
match_cmp = (matching_ord.ghosts).cmp

abbrev pub key_equal : Key → Key → Bool
key_equal = (key.ghosts).eq
