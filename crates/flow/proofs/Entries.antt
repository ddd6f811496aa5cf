-- Table order is a strict total order of the keys: it compares the priority and then the rank of the match, and the rank tells
-- matches apart. Equality of keys and of actions is what the tests say. Assumes nothing.
use mathlib.Core.Path.{◌≡◌, refl, sym, ◌∙◌, ap}
use mathlib.Core.Logic.{◌↔◌}
use mathlib.Core.Bool.{true, false, false≢true, true≢false}
use native.Mathlib.Omega.{arith}
use borrow.Author.Tests.{eqb-true, eq-eqb}
use Rattle.flow.specs.Types.{Exact, Match, Action, Key, Ordering}
use Rattle.flow.specs.Entries.{exact_rank, rank, match_order, key_order, is_equal, same_key, action_code, same_action}
use Rattle.basics.proofs.Booleans.{split}
use Rattle.flow.proofs.Orders.{falling, lexicographic, in_turn}
use Rattle.flow.specs.Orders.{IsOrder, opposite}

pub exact_apart : (a b : Exact) → exact_rank a ≡ exact_rank b → a ≡ b
exact_apart Exact.Any Exact.Any e = refl
exact_apart Exact.Any (Exact.Is n) e = absurd (omega arith)
exact_apart (Exact.Is m) Exact.Any e = absurd (omega arith)
exact_apart (Exact.Is m) (Exact.Is n) e = let q : m ≡ n = omega arith in rw q

-- the rank tells matches apart
pub rank_injective : (m n : Match) → rank m ≡ rank n → m ≡ n
unfolding rank
rank_injective m n e =
    let p₀ : exact_rank m.port ≡ exact_rank n.port = cc in
    let p₁ : exact_rank m.vlan ≡ exact_rank n.vlan = cc in
    let p₂ : m.src.value ≡ n.src.value = cc in
    let p₃ : m.src.length ≡ n.src.length = cc in
    let p₄ : m.dst.value ≡ n.dst.value = cc in
    let p₅ : m.dst.length ≡ n.dst.length = cc in
    let p₆ : exact_rank m.proto ≡ exact_rank n.proto = cc in
    let p₇ : exact_rank m.sport ≡ exact_rank n.sport = cc in
    let p₈ : exact_rank m.dport ≡ exact_rank n.dport = cc in
    λ i. record {
      port = exact_apart m.port n.port p₀ i;
      vlan = exact_apart m.vlan n.vlan p₁ i;
      src = record { value = p₂ i; length = p₃ i };
      dst = record { value = p₄ i; length = p₅ i };
      proto = exact_apart m.proto n.proto p₆ i;
      sport = exact_apart m.sport n.sport p₇ i;
      dport = exact_apart m.dport n.dport p₈ i;
    }

-- table order: two keys that compare equal are equal; opposite when swapped; transitive
pub key_order_lem : IsOrder Key key_order
unfolding key_order match_order
key_order_lem = in_turn falling lexicographic (λ (k : Key). k.priority) (λ k. rank k.pattern)
    (λ j k p q. λ i. record { priority = p i; pattern = rank_injective j.pattern k.pattern q i })

is_equal_lem : (o : Ordering) → is_equal o ≡ true → o ≡ Ordering.Equal
is_equal_lem Ordering.Less e = absurd (false≢true e)
is_equal_lem Ordering.Equal e = refl
is_equal_lem Ordering.Greater e = absurd (false≢true e)

-- ---- the same key
pub same_eq : (j k : Key) → same_key j k ≡ true → j ≡ k
unfolding same_key
same_eq j k e = key_order_lem.same j k (is_equal_lem (key_order j k) e)

pub same_self : (k : Key) → same_key k k ≡ true
unfolding same_key
same_self k = rw (key_order_lem.self k) refl

same_of : {j k : Key} → j ≡ k → same_key j k ≡ true
same_of {j} {k} e = rw e (same_self k)

pub same_iff : (j k : Key) → (same_key j k ≡ true) ↔ (j ≡ k)
same_iff j k = (same_eq j k, same_of)

pub differ : (j k : Key) → same_key j k ≡ false → j ≡ k → ⊥
differ j k e q = true≢false (sym (same_of q) ∙ e)

pub differ_of : (j k : Key) → (j ≡ k → ⊥) → same_key j k ≡ false
differ_of j k h = split (same_key j k) (λ e. absurd (h (same_eq j k e))) (λ e. e)

pub same_sym : (j k : Key) → same_key j k ≡ same_key k j
same_sym j k = split (same_key j k) (λ e. e ∙ sym (same_of (sym (same_eq j k e)))) (λ e. e ∙ sym (differ_of k j (λ q. differ j k e (sym q))))

pub less_differ : (j k : Key) → key_order j k ≡ Ordering.Less → same_key j k ≡ false
unfolding same_key
less_differ j k e = rw e refl

pub greater_less : (j k : Key) → key_order j k ≡ Ordering.Greater → key_order k j ≡ Ordering.Less
greater_less j k e = key_order_lem.turn j k ∙ ap opposite e

pub greater_differ : (j k : Key) → key_order j k ≡ Ordering.Greater → j ≡ k → ⊥
greater_differ j k e q = true≢false (sym (same_of (sym q)) ∙ less_differ k j (greater_less j k e))

-- ---- the same action
code_apart : (a b : Action) → action_code a ≡ action_code b → a ≡ b
code_apart Action.Drop Action.Drop e = refl
code_apart Action.Drop Action.Controller e = absurd (omega arith)
code_apart Action.Drop (Action.Port n) e = absurd (omega arith)
code_apart Action.Controller Action.Drop e = absurd (omega arith)
code_apart Action.Controller Action.Controller e = refl
code_apart Action.Controller (Action.Port n) e = absurd (omega arith)
code_apart (Action.Port m) Action.Drop e = absurd (omega arith)
code_apart (Action.Port m) Action.Controller e = absurd (omega arith)
code_apart (Action.Port m) (Action.Port n) e = let q : m ≡ n = omega arith in rw q

pub action_eq : (a b : Action) → same_action a b ≡ true → a ≡ b
unfolding same_action
action_eq a b e = code_apart a b (eqb-true (action_code a) (action_code b) e)

pub action_self : (a : Action) → same_action a a ≡ true
unfolding same_action
action_self a = eq-eqb (action_code a) (action_code a) refl

pub action_iff : (a b : Action) → (same_action a b ≡ true) ↔ (a ≡ b)
action_iff a b = (action_eq a b, λ q. rw q (action_self b))
