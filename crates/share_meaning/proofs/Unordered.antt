-- An unordered pair is commuting or listed, and these are unordered; so no pair is unordered exactly if there is none of either
-- kind (`none_unordered_iff`). Assumes nothing.
use Prim.Native.Nat.{ℕ, ◌+◌}
use native.Mathlib.Omega.{arith}
use mathlib.Core.Path.{◌≡◌, refl, sym}
use mathlib.Core.Bool.{Bool, true, false, not, ◌&&◌, true≢false}
use mathlib.Core.List.Memᴰ
use mathlib.Core.List.{List, [], ◌∷◌, Memᴰ}
use mathlib.Core.Logic.{◌↔◌, ◌⊎◌, inl, inr, ⊎_elim}
use lib.ListN.{length}
use Rattle.flow_table.specs.FlowTable.{effect_of, EffectInRange}
use Rattle.commuting.specs.Commuting.{commutes}
use Rattle.trace_events.specs.Events.{event_at}
use Rattle.trace_events.specs.Clocks.{InLineOrder}
use Rattle.happens_before.specs.Causality.{before}
use Rattle.list_verdicts.specs.Kinds.{Kind, pairs, ordered, commuting, listed, paired}
use Rattle.list_pairs.specs.List.{Pair, test, of_kind, count}
use Rattle.list_pairs.proofs.Members.{pairs_in}
use Rattle.list_meaning.specs.Meaning.{OfKind}
use Rattle.list_meaning.proofs.OfKind.{kind_iff}
use Rattle.share_meaning.specs.Types.{Event}
use Rattle.share_meaning.specs.Share.{Unordered}

-- a list is empty exactly if no pair is in it
empty_iff : (ps : List Pair) → (length ps ≡ 0) ↔ ((i j : ℕ) → Memᴰ (record { lower = i; higher = j }) ps → ⊥)
empty_iff [] = (λ _ i j m. Memᴰ.not-nil m, λ _. refl)
empty_iff (p ∷ ps) = (λ e. absurd (omega (arith, e)), λ h. absurd (h p.lower p.higher (Memᴰ.head refl)))

-- a pair, of which h says whether it is ordered and c whether it commutes, is of one kind
one_kind : (a h c : Bool) → a ≡ true → ((a && h) ≡ true) ⊎ (((a && (not h && c)) ≡ true) ⊎ ((a && (not h && not c)) ≡ true))
one_kind false h c e = absurd (true≢false (sym e))
one_kind true true c e = inl refl
one_kind true false true e = inr (inl refl)
one_kind true false false e = inr (inr refl)

module _ (delay : ℕ) (es : List Event) (clocks : InLineOrder delay es) (ranges : (k : ℕ) → EffectInRange (effect_of (event_at es k).operation)) where
  commuting_or_listed : (i j : ℕ) → Unordered delay es i j → OfKind delay commuting es i j ⊎ OfKind delay listed es i j
  unfolding test
  commuting_or_listed i j (p, u) =
      let o = (event_at es i).operation in
      let q = (event_at es j).operation in
      let iff = kind_iff delay es clocks i j ranges in
      let (l, m, e) = (pairs_in (test delay pairs es) (length es) i j).0 ((iff pairs).1 p) in
      ⊎_elim (λ t. absurd (u ((iff ordered).0 ((pairs_in (test delay ordered es) (length es) i j).1 (l, m, t))).1))
      (⊎_elim (λ t. inl ((iff commuting).0 ((pairs_in (test delay commuting es) (length es) i j).1 (l, m, t)))) (λ t. inr ((iff listed).0 ((pairs_in (test delay listed es) (length es) i j).1 (l, m, t)))))
      (one_kind (paired o q) (before delay es i j) (commutes (effect_of o) (effect_of q)) e)

  -- none of a kind exactly if no two events are of it
  none_iff : (k : Kind) → (count delay k es ≡ 0) ↔ ((i j : ℕ) → OfKind delay k es i j → ⊥)
  none_iff k =
      let (to, from) = empty_iff (of_kind delay k es (length es)) in
      (λ e i j o. to e i j ((kind_iff delay es clocks i j ranges k).1 o), λ h. from (λ i j m. h i j ((kind_iff delay es clocks i j ranges k).0 m)))

  pub none_unordered_iff : (count delay commuting es + count delay listed es ≡ 0) ↔ ((i j : ℕ) → Unordered delay es i j → ⊥)
  none_unordered_iff = (
    λ e i j u. ⊎_elim ((none_iff commuting).0 (omega (arith, e)) i j) ((none_iff listed).0 (omega (arith, e)) i j) (commuting_or_listed i j u),
    λ h. omega (arith, (none_iff commuting).1 (λ i j (p, u, c). h i j (p, u)), (none_iff listed).1 (λ i j (p, u, d). h i j (p, u))),
  )
