-- The pairs of each kind are those that document 01 calls so, and no others (`kind_iff`); an event is counted for a switch exactly
-- if it uses its table (`on_table_iff`). Assumes nothing.
use Prim.Native.Nat.{ℕ, ◌<◌}
use native.Mathlib.Omega.{arith}
use mathlib.Core.Path.{◌≡◌, refl, sym, ap, ap₂, ◌∙◌}
use mathlib.Core.Logic.{◌↔◌, inl, inr}
use mathlib.Core.Bool.{Bool, true, false, not, ◌&&◌, true≢false}
use mathlib.Core.List.{List, Memᴰ}
use lib.Dec.{eqb}
use lib.ListN.{length}
use borrow.Author.Tests.{eq-eqb, eqb-true, not-true}
use Rattle.basics.proofs.Booleans.{and_left, and_right, and_intro}
use Rattle.flow_table.specs.FlowTable.{effect_of, table_effect, EffectInRange}
use Rattle.flow_table.specs.Switches.{uses_table, switch_of}
use Rattle.commuting.specs.Commuting.{commutes, Commute}
use Rattle.commuting.specs.Inner.{witness}
use Rattle.commuting.proofs.Theorems.{told, commutes_iff}
use Rattle.trace_events.specs.Events.{event_at}
use Rattle.happens_before.specs.Causality.{before}
use Rattle.trace_events.specs.Clocks.{InLineOrder}
use Rattle.happens_before.proofs.Direct.{before_direct, direct_later}
use Rattle.list_verdicts.specs.Kinds.{Kind, pairs, ordered, commuting, listed, paired, is_kind}
use Rattle.list_pairs.specs.List.{test, of_kind}
use Rattle.list_pairs.specs.Counting.{on_table}
use Rattle.list_pairs.proofs.Members.{pairs_in}
use Rattle.list_meaning.specs.Types.{TableOperation, Operation, Effect, Event}
use Rattle.list_meaning.specs.Meaning.{OneTable, Ordered, Differ, OfKind}

-- ---- table events
used : (o : Operation) → uses_table o ≡ true → (t : TableOperation) × (o ≡ Operation.Table (switch_of o) t)
used Operation.Other e = absurd (true≢false (sym e))
used (Operation.Barrier w) e = absurd (true≢false (sym e))
used (Operation.Message w) e = absurd (true≢false (sym e))
used (Operation.Table w t) e = (t, refl)

-- the events that are counted for a switch are those that use its table
pub on_table_iff : (w : ℕ) (o : Operation) → (on_table w o ≡ true) ↔ ((t : TableOperation) × (o ≡ Operation.Table w t))
unfolding on_table
on_table_iff w o = (to, from)
  where
    to : (uses_table o && eqb (switch_of o) w) ≡ true → (t : TableOperation) × (o ≡ Operation.Table w t)
    to h =
        let u = used o (and_left (uses_table o) (eqb (switch_of o) w) h) in
        let e = eqb-true (switch_of o) w (and_right (uses_table o) (eqb (switch_of o) w) h) in
        (u.0, u.1 ∙ ap (λ (v : ℕ). Operation.Table v u.0) e)

    from : (t : TableOperation) × (o ≡ Operation.Table w t) → (uses_table o && eqb (switch_of o) w) ≡ true
    from (t, e) = rw e (eq-eqb w w refl)

-- ---- a test that does not say yes
refuted : (b : Bool) → (b ≡ true → ⊥) → not b ≡ true
refuted true h = absurd (h refl)
refuted false h = refl

-- ---- two operations that some table tells apart
differ_iff : (v w : Effect) → EffectInRange v → EffectInRange w → (not (commutes v w) ≡ true) ↔ Differ v w
differ_iff v w a b = (
  λ h. let t = told v w a b (not-true (commutes v w) h) in record { table = witness v w; sorted = t.sorted; in_range = t.in_range; apart = t.apart },
  λ d. refuted (commutes v w) (λ e. d.apart ((commutes_iff v w).0 e d.table d.sorted)),
)

module _ (delay : ℕ) (es : List Event) (clocks : InLineOrder delay es) (i j : ℕ) where
  one_table : i < j → j < length es → paired (event_at es i).operation (event_at es j).operation ≡ true → OneTable es i j
  unfolding paired
  one_table l m h =
      let o = (event_at es i).operation in
      let p = (event_at es j).operation in
      let more = and_right (uses_table o) (uses_table p && eqb (switch_of o) (switch_of p)) h in
      let a = used o (and_left (uses_table o) (uses_table p && eqb (switch_of o) (switch_of p)) h) in
      let b = used p (and_left (uses_table p) (eqb (switch_of o) (switch_of p)) more) in
      let same = eqb-true (switch_of o) (switch_of p) (and_right (uses_table p) (eqb (switch_of o) (switch_of p)) more) in
      record {
        lower = l;
        higher = m;
        switch = switch_of o;
        first = a.0;
        second = b.0;
        lower_is = a.1;
        higher_is = b.1 ∙ ap (λ (w : ℕ). Operation.Table w b.0) (sym same);
      }

  table_paired : OneTable es i j → paired (event_at es i).operation (event_at es j).operation ≡ true
  unfolding paired
  table_paired p = rw (p.lower_is, p.higher_is) (eq-eqb p.switch p.switch refl)

  ordered_iff : i < j → (before delay es i j ≡ true) ↔ Ordered delay es i j
  ordered_iff l = (λ e. inl ((before_direct delay es clocks i j).0 e), back)
    where
      back : Ordered delay es i j → before delay es i j ≡ true
      back (inl c) = (before_direct delay es clocks i j).1 c
      back (inr c) = absurd (omega (arith, l, (direct_later delay es clocks c).0))

  unordered_iff : i < j → (not (before delay es i j) ≡ true) ↔ (Ordered delay es i j → ⊥)
  unordered_iff l = (
    λ h o. true≢false (sym ((ordered_iff l).1 o) ∙ not-true (before delay es i j) h),
    λ h. refuted (before delay es i j) (λ e. h ((ordered_iff l).0 e)),
  )

  -- what the operations do is what the table operations do
  same_commutes : (p : OneTable es i j)
      → commutes (effect_of (event_at es i).operation) (effect_of (event_at es j).operation) ≡ commutes (table_effect p.first) (table_effect p.second)
  same_commutes p = ap₂ (λ (a b : Operation). commutes (effect_of a) (effect_of b)) p.lower_is p.higher_is

  module _ (ranges : (k : ℕ) → EffectInRange (effect_of (event_at es k).operation)) where
    differ_here : (p : OneTable es i j)
        → (not (commutes (table_effect p.first) (table_effect p.second)) ≡ true) ↔ Differ (table_effect p.first) (table_effect p.second)
    differ_here p = differ_iff (table_effect p.first) (table_effect p.second) (rw p.lower_is at (ranges i)) (rw p.higher_is at (ranges j))

    from_test : (k : Kind) → i < j → j < length es → is_kind k (event_at es i).operation (event_at es j).operation (before delay es i j) ≡ true → OfKind delay k es i j
    from_test pairs l m h = one_table l m h
    from_test ordered l m h =
        let a = paired (event_at es i).operation (event_at es j).operation in
        let b = before delay es i j in
        (one_table l m (and_left a b h), (ordered_iff l).0 (and_right a b h))
    from_test commuting l m h =
        let a = paired (event_at es i).operation (event_at es j).operation in
        let b = before delay es i j in
        let c = commutes (effect_of (event_at es i).operation) (effect_of (event_at es j).operation) in
        let p = one_table l m (and_left a (not b && c) h) in
        let rest = and_right a (not b && c) h in
        (p, (unordered_iff l).0 (and_left (not b) c rest), (commutes_iff _ _).0 (sym (same_commutes p) ∙ and_right (not b) c rest))
    from_test listed l m h =
        let a = paired (event_at es i).operation (event_at es j).operation in
        let b = before delay es i j in
        let c = commutes (effect_of (event_at es i).operation) (effect_of (event_at es j).operation) in
        let p = one_table l m (and_left a (not b && not c) h) in
        let rest = and_right a (not b && not c) h in
        (p, (unordered_iff l).0 (and_left (not b) (not c) rest), (differ_here p).0 (sym (ap not (same_commutes p)) ∙ and_right (not b) (not c) rest))

    to_test : (k : Kind) → OfKind delay k es i j → (i < j) × (j < length es) × (is_kind k (event_at es i).operation (event_at es j).operation (before delay es i j) ≡ true)
    to_test pairs p = (p.lower, p.higher, table_paired p)
    to_test ordered (p, o) = (p.lower, p.higher, and_intro (table_paired p) ((ordered_iff p.lower).1 o))
    to_test commuting (p, u, c) =
        (p.lower, p.higher, and_intro (table_paired p) (and_intro ((unordered_iff p.lower).1 u) (same_commutes p ∙ (commutes_iff _ _).1 c)))
    to_test listed (p, u, d) =
        (p.lower, p.higher, and_intro (table_paired p) (and_intro ((unordered_iff p.lower).1 u) (ap not (same_commutes p) ∙ (differ_here p).1 d)))

    -- where what the events carry is in range: i and j stand among the pairs of a kind exactly if they are of that kind
    pub kind_iff : (k : Kind) → Memᴰ (record { lower = i; higher = j }) (of_kind delay k es (length es)) ↔ OfKind delay k es i j
    unfolding test
    kind_iff k =
        let r = pairs_in (test delay k es) (length es) i j in (
          λ m. let h = r.0 m in from_test k h.0 h.1 h.2,
          λ o. r.1 (to_test k o),
        )
