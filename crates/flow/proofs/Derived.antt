-- The derived equality and order are those of specs/Entries.antt and specs/Inner.antt. Assumes nothing.
use mathlib.Core.Path.{◌≡◌, refl, sym, ◌∙◌, ap}
use mathlib.Core.Bool.{◌&&◌}
use Prim.Native.Nat.{ℕ, ◌+◌}
use native.Mathlib.Omega.{arith}
use lib.Dec.{eqb}
use borrow.Author.Tests.{eqb-true, eq-eqb, ne_eqb}
use Rattle.std.specs.Ordering.{nat_cmp, ordering_then}
use Rattle.basics.proofs.Booleans.{both_ways}
use Rattle.flow.specs.Types.{Exact, Prefix, Match, Action, Key, Ordering}
use Rattle.flow.specs.Entries.{exact_rank, rank, match_order, same_key, same_action}
use Rattle.flow.specs.Inner.{same_exact, same_prefix, same_match}
use Rattle.std.specs.Ordering.{nat_cmp, ordering_then}
use Rattle.flow.specs.Derived.{action_equal, exact_equal, exact_cmp, prefix_equal, prefix_cmp, match_equal, match_cmp, key_equal}
use Rattle.flow.proofs.Orders.{number_less, number_equal, number_greater, three}
use Rattle.flow.proofs.SameKey.{same_key_lem}

more_equal : (m n d : ℕ) → eqb m n ≡ eqb (m + d) (n + d)
more_equal m n d = both_ways (eqb m n) (eqb (m + d) (n + d))
    (λ e. eq-eqb (m + d) (n + d) (ap (λ k. k + d) (eqb-true m n e)))
    (λ e. let h = eqb-true (m + d) (n + d) e in eq-eqb m n (omega arith))

pub action_same : (a b : Action) → action_equal a b ≡ same_action a b
unfolding same_action
action_same Action.Drop Action.Drop = refl
action_same Action.Drop Action.Controller = refl
action_same Action.Drop (Action.Port n) = sym (ne_eqb 0 (n + 2) (λ e. omega arith))
action_same Action.Controller Action.Drop = refl
action_same Action.Controller Action.Controller = refl
action_same Action.Controller (Action.Port n) = sym (ne_eqb 1 (n + 2) (λ e. omega arith))
action_same (Action.Port m) Action.Drop = sym (ne_eqb (m + 2) 0 (λ e. omega arith))
action_same (Action.Port m) Action.Controller = sym (ne_eqb (m + 2) 1 (λ e. omega arith))
action_same (Action.Port m) (Action.Port n) = more_equal m n 2

pub exact_same : (a b : Exact) → exact_equal a b ≡ same_exact a b
exact_same Exact.Any Exact.Any = refl
exact_same Exact.Any (Exact.Is n) = sym (ne_eqb 0 (n + 1) (λ e. omega arith))
exact_same (Exact.Is m) Exact.Any = sym (ne_eqb (m + 1) 0 (λ e. omega arith))
exact_same (Exact.Is m) (Exact.Is n) = more_equal m n 1

pub prefix_same : (p q : Prefix) → prefix_equal p q ≡ same_prefix p q
prefix_same p q = refl

pub exact_order : (a b : Exact) → exact_cmp a b ≡ nat_cmp (exact_rank a) (exact_rank b)
exact_order Exact.Any Exact.Any = sym (number_equal {a = 0} {b = 0} refl)
exact_order Exact.Any (Exact.Is n) = sym (number_less {a = 0} {b = n + 1} (omega arith))
exact_order (Exact.Is m) Exact.Any = sym (number_greater {a = m + 1} {b = 0} (omega arith))
exact_order (Exact.Is m) (Exact.Is n) = three m n
    (λ h. number_less h ∙ sym (number_less {a = m + 1} {b = n + 1} (omega arith)))
    (λ h. number_equal h ∙ sym (number_equal {a = m + 1} {b = n + 1} (omega arith)))
    (λ h. number_greater h ∙ sym (number_greater {a = m + 1} {b = n + 1} (omega arith)))

-- by value, then by length
pub prefix_order : (p q : Prefix) → prefix_cmp p q ≡ ordering_then (nat_cmp p.value q.value) (nat_cmp p.length q.length)
prefix_order p q = refl

pub match_same : (m n : Match) → match_equal m n ≡ same_match m n
unfolding same_match
match_same m n = λ i.
    exact_same m.port n.port i
    && (exact_same m.vlan n.vlan i
    && (same_prefix m.src n.src
    && (same_prefix m.dst n.dst
    && (exact_same m.proto n.proto i
    && (exact_same m.sport n.sport i
    && exact_same m.dport n.dport i)))))

then_assoc : (o p q : Ordering) → ordering_then (ordering_then o p) q ≡ ordering_then o (ordering_then p q)
then_assoc Ordering.Less p q = refl
then_assoc Ordering.Equal p q = refl
then_assoc Ordering.Greater p q = refl

then_last : (o : Ordering) → o ≡ ordering_then o Ordering.Equal
then_last Ordering.Less = refl
then_last Ordering.Equal = refl
then_last Ordering.Greater = refl

pub match_in_order : (m n : Match) → match_cmp m n ≡ match_order m n
unfolding match_order rank
match_in_order m n = (λ i.
    ordering_then (exact_order m.port n.port i)
    (ordering_then (exact_order m.vlan n.vlan i)
    (then_assoc (nat_cmp m.src.value n.src.value) (nat_cmp m.src.length n.src.length)
    (then_assoc (nat_cmp m.dst.value n.dst.value) (nat_cmp m.dst.length n.dst.length)
    (ordering_then (exact_order m.proto n.proto i)
    (ordering_then (exact_order m.sport n.sport i)
    ((exact_order m.dport n.dport ∙ then_last _) i))) i) i)))

pub key_same : (j k : Key) → key_equal j k ≡ same_key j k
key_same j k = (λ i. swapped j.priority k.priority i && match_same j.pattern k.pattern i) ∙ sym (same_key_lem j k)
  where
    swapped : (m n : ℕ) → eqb m n ≡ eqb n m
    swapped m n = both_ways (eqb m n) (eqb n m) (λ e. eq-eqb n m (sym (eqb-true m n e))) (λ e. eq-eqb m n (sym (eqb-true n m e)))
