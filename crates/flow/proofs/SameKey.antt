-- Table order finds two keys equal exactly if the priorities are equal and each field of the matches; the tests for the same field
-- and the same match are equality. Assumes nothing.
use mathlib.Core.Path.{◌≡◌, sym, ◌∙◌, ap}
use mathlib.Core.Logic.{◌↔◌}
use mathlib.Core.Bool.{Bool, true, false, ◌&&◌}
use Prim.Native.Nat.{ℕ}
use native.Mathlib.Omega.{arith}
use lib.Dec.{eqb, ltb}
use borrow.Author.Tests.{eqb-true, eq-eqb, ne_eqb, ltb-true}
use Rattle.flow.specs.Types.{Exact, Prefix, Match, Key, Ordering}
use Rattle.flow.specs.Entries.{exact_rank, rank, match_order, key_order, is_equal, same_key}
use Rattle.flow.specs.Inner.{same_exact, same_prefix, same_match}
use Rattle.std.specs.Ordering.{nat_cmp, ordering_then}
use Rattle.basics.proofs.Booleans.{split, and_left, and_right, and_intro, and_assoc, and-true}
use Rattle.flow.proofs.Entries.{exact_apart}

equal_then : (a b : ℕ) (o : Ordering) → is_equal (ordering_then (nat_cmp a b) o) ≡ (eqb a b && is_equal o)
equal_then a b o = split (ltb a b)
    (λ u. let h = ltb-true a b u in rw (u, ne_eqb a b (λ e. omega arith)))
    (λ u. split (eqb a b)
    (λ v. rw (u, v))
    (λ v. rw (u, v)))

same_match_lem : (m n : Match) → is_equal (match_order m n) ≡ same_match m n
unfolding match_order rank same_match
same_match_lem m n = simp (equal_then, and_assoc, and-true)

pub same_key_lem : (j k : Key) → same_key j k ≡ (eqb k.priority j.priority && same_match j.pattern k.pattern)
unfolding same_key key_order
same_key_lem j k = equal_then k.priority j.priority (match_order j.pattern k.pattern) ∙ ap (λ b. eqb k.priority j.priority && b) (same_match_lem j.pattern k.pattern)

pub other_priority : (j k : Key) → (j.priority ≡ k.priority → ⊥) → same_key j k ≡ false
other_priority j k h = rw (same_key_lem j k, ne_eqb k.priority j.priority (λ e. h (sym e)))

pub one_priority : (j k : Key) → j.priority ≡ k.priority → same_key j k ≡ same_match j.pattern k.pattern
one_priority j k h = rw (same_key_lem j k, eq-eqb k.priority j.priority (sym h))

-- ---- the tests are equality
pub same_exact_iff : (a b : Exact) → (same_exact a b ≡ true) ↔ (a ≡ b)
same_exact_iff a b = (λ e. exact_apart a b (eqb-true (exact_rank a) (exact_rank b) e), λ q. eq-eqb (exact_rank a) (exact_rank b) (ap exact_rank q))

pub same_prefix_iff : (p q : Prefix) → (same_prefix p q ≡ true) ↔ (p ≡ q)
same_prefix_iff p q = (
  λ e.
      let v = eqb-true p.value q.value (and_left (eqb p.value q.value) (eqb p.length q.length) e) in
      let l = eqb-true p.length q.length (and_right (eqb p.value q.value) (eqb p.length q.length) e) in
      λ i. record { value = v i; length = l i },
  λ e. and_intro (eq-eqb p.value q.value (ap (λ (r : Prefix). r.value) e)) (eq-eqb p.length q.length (ap (λ (r : Prefix). r.length) e)),
)

pub same_match_iff : (m n : Match) → (same_match m n ≡ true) ↔ (m ≡ n)
unfolding same_match
same_match_iff m n = (forth, back)
  where
    b₀ : Bool
    b₀ = same_exact m.port n.port

    b₁ : Bool
    b₁ = same_exact m.vlan n.vlan

    b₂ : Bool
    b₂ = same_prefix m.src n.src

    b₃ : Bool
    b₃ = same_prefix m.dst n.dst

    b₄ : Bool
    b₄ = same_exact m.proto n.proto

    b₅ : Bool
    b₅ = same_exact m.sport n.sport

    b₆ : Bool
    b₆ = same_exact m.dport n.dport

    forth : (b₀ && (b₁ && (b₂ && (b₃ && (b₄ && (b₅ && b₆)))))) ≡ true → m ≡ n
    forth e₀ =
        let e₁ = and_right b₀ (b₁ && (b₂ && (b₃ && (b₄ && (b₅ && b₆))))) e₀ in
        let e₂ = and_right b₁ (b₂ && (b₃ && (b₄ && (b₅ && b₆)))) e₁ in
        let e₃ = and_right b₂ (b₃ && (b₄ && (b₅ && b₆))) e₂ in
        let e₄ = and_right b₃ (b₄ && (b₅ && b₆)) e₃ in
        let e₅ = and_right b₄ (b₅ && b₆) e₄ in
        let q₀ = (same_exact_iff m.port n.port).0 (and_left b₀ (b₁ && (b₂ && (b₃ && (b₄ && (b₅ && b₆))))) e₀) in
        let q₁ = (same_exact_iff m.vlan n.vlan).0 (and_left b₁ (b₂ && (b₃ && (b₄ && (b₅ && b₆)))) e₁) in
        let q₂ = (same_prefix_iff m.src n.src).0 (and_left b₂ (b₃ && (b₄ && (b₅ && b₆))) e₂) in
        let q₃ = (same_prefix_iff m.dst n.dst).0 (and_left b₃ (b₄ && (b₅ && b₆)) e₃) in
        let q₄ = (same_exact_iff m.proto n.proto).0 (and_left b₄ (b₅ && b₆) e₄) in
        let q₅ = (same_exact_iff m.sport n.sport).0 (and_left b₅ b₆ e₅) in
        let q₆ = (same_exact_iff m.dport n.dport).0 (and_right b₅ b₆ e₅) in
        λ i. record { port = q₀ i; vlan = q₁ i; src = q₂ i; dst = q₃ i; proto = q₄ i; sport = q₅ i; dport = q₆ i }

    back : m ≡ n → (b₀ && (b₁ && (b₂ && (b₃ && (b₄ && (b₅ && b₆)))))) ≡ true
    back q =
        and_intro ((same_exact_iff m.port n.port).1 (ap (λ (x : Match). x.port) q))
        (and_intro ((same_exact_iff m.vlan n.vlan).1 (ap (λ (x : Match). x.vlan) q))
        (and_intro ((same_prefix_iff m.src n.src).1 (ap (λ (x : Match). x.src) q))
        (and_intro ((same_prefix_iff m.dst n.dst).1 (ap (λ (x : Match). x.dst) q))
        (and_intro ((same_exact_iff m.proto n.proto).1 (ap (λ (x : Match). x.proto) q))
        (and_intro ((same_exact_iff m.sport n.sport).1 (ap (λ (x : Match). x.sport) q))
        ((same_exact_iff m.dport n.dport).1 (ap (λ (x : Match). x.dport) q)))))))
