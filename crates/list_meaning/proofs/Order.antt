-- The pairs of a kind stand in rising order (`pairs_rising`), and two rising lists with the same members are equal
-- (`rising_unique`), so that there is one list of the pairs of a kind (`one_list`). Assumes nothing.
use Prim.Native.Nat.{ℕ, zero, suc, ◌<◌}
use native.Mathlib.Omega.{arith}
use mathlib.Core.Path.{◌≡◌, refl, sym, ap, ap₂, ◌∙◌, subst}
use mathlib.Core.Bool.{Bool, true, false, ◌&&◌}
use mathlib.Core.Logic.{inl, inr, ⊎_elim}
use mathlib.Core.List.Memᴰ
use mathlib.Core.List.{List, [], ◌∷◌, ◌++◌, Memᴰ}
use lib.Dec.{ltb}
use Rattle.basics.specs.Searches.{only, gather}
use Rattle.basics.proofs.Gathered.{gather_in, only_in}
use Rattle.list_verdicts.specs.Kinds.{Kind}
use Rattle.list_pairs.specs.List.{Pair, cell, pairs_where}
use Rattle.list_meaning.specs.Types.{Event}
use Rattle.list_meaning.specs.Rising.{Below, RisingPairs, IsListOf}

-- ---- rising lists
-- every pair of one list is below every pair of another
abbrev AllBelow : List Pair → List Pair → Type 0
AllBelow a b = (p q : Pair) → Memᴰ p a → Memᴰ q b → Below p q

rising_append : (a b : List Pair) → RisingPairs a → RisingPairs b → AllBelow a b → RisingPairs (a ++ b)
rising_append [] b r s h = s
rising_append (p ∷ a) b r s h = (
  λ q m. ⊎_elim (r.0 q) (h p q (Memᴰ.head refl)) (Memᴰ.append_cases a m),
  rising_append a b r.1 s (λ x y m n. h x y (Memᴰ.tail m) n),
)

rising_gather : (f : ℕ → List Pair) → ((m : ℕ) → RisingPairs (f m)) → ((m k : ℕ) → m < k → AllBelow (f m) (f k)) → (n : ℕ) → RisingPairs (gather f n)
rising_gather f r h zero = tt
rising_gather f r h (suc n) =
    rising_append (gather f n) (f n) (rising_gather f r h n) (r n)
    (λ p q m l. let g = gather_in p f n m in h g.0 n g.1 p q g.2 l)

rising_only : (t : Bool) (p : Pair) → RisingPairs (only t p)
rising_only true p = (λ q m. absurd (Memᴰ.not-nil m), tt)
rising_only false p = tt

-- ---- the pairs of which a test holds
module _ (t : ℕ → ℕ → Bool) where
  in_cell : (i j : ℕ) (p : Pair) → Memᴰ p (cell t i j) → p ≡ record { lower = i; higher = j }
  in_cell i j p m = (only_in p (record { lower = i; higher = j }) (ltb i j && t i j) m).0

  in_row : (i n : ℕ) (p : Pair) → Memᴰ p (gather (cell t i) n) → p.lower ≡ i
  in_row i n p m = let g = gather_in p (cell t i) n m in ap (λ (q : Pair). q.lower) (in_cell i g.0 p g.2)

  row_rising : (i n : ℕ) → RisingPairs (gather (cell t i) n)
  row_rising i =
      rising_gather (cell t i) (λ m. rising_only (ltb i m && t i m) (record { lower = i; higher = m }))
      (λ m k l p q x y.
      let e = in_cell i m p x in
      let f = in_cell i k q y in
      inr (
        ap (λ (z : Pair). z.lower) e ∙ sym (ap (λ (z : Pair). z.lower) f),
        omega (arith, l, ap (λ (z : Pair). z.higher) e, ap (λ (z : Pair). z.higher) f),
      ))

  pub pairs_rising : (n : ℕ) → RisingPairs (pairs_where t n)
  unfolding pairs_where
  pairs_rising n =
      rising_gather (λ i. gather (cell t i) n) (λ i. row_rising i n)
      (λ m k l p q x y. inl (omega (arith, l, in_row m n p x, in_row k n q y))) n

-- ---- a rising list is known by its members
below_irreflexive : (p : Pair) → Below p p → ⊥
below_irreflexive p (inl l) = omega arith
below_irreflexive p (inr (e, l)) = omega arith

below_asymmetric : (p q : Pair) → Below p q → Below q p → ⊥
below_asymmetric p q (inl l) (inl m) = omega arith
below_asymmetric p q (inl l) (inr (e, m)) = omega arith
below_asymmetric p q (inr (e, l)) (inl m) = omega arith
below_asymmetric p q (inr (e, l)) (inr (f, m)) = omega arith

pub rising_unique : (a b : List Pair) → RisingPairs a → RisingPairs b → ((p : Pair) → Memᴰ p a → Memᴰ p b) → ((p : Pair) → Memᴰ p b → Memᴰ p a) → a ≡ b
rising_unique [] [] r s f g = refl
rising_unique [] (q ∷ b) r s f g = absurd (Memᴰ.not-nil (g q (Memᴰ.head refl)))
rising_unique (p ∷ a) [] r s f g = absurd (Memᴰ.not-nil (f p (Memᴰ.head refl)))
rising_unique (p ∷ a) (q ∷ b) r s f g = ap₂ {C = List Pair} ◌∷◌ heads (rising_unique a b r.1 s.1 forth back)
  where
    heads : p ≡ q
    heads =
        ⊎_elim (λ e. e)
        (λ m. ⊎_elim (λ e. sym e) (λ n. absurd (below_asymmetric p q (r.0 q n) (s.0 p m))) (Memᴰ.cases_cons (g q (Memᴰ.head refl))))
        (Memᴰ.cases_cons (f p (Memᴰ.head refl)))

    forth : (x : Pair) → Memᴰ x a → Memᴰ x b
    forth x m = ⊎_elim (λ e. absurd (below_irreflexive p (subst (Below p) (e ∙ sym heads) (r.0 x m)))) (λ n. n) (Memᴰ.cases_cons (f x (Memᴰ.tail m)))

    back : (x : Pair) → Memᴰ x b → Memᴰ x a
    back x m = ⊎_elim (λ e. absurd (below_irreflexive q (subst (Below q) (e ∙ heads) (s.0 x m)))) (λ n. n) (Memᴰ.cases_cons (g x (Memᴰ.tail m)))

pub one_list : (delay : ℕ) (k : Kind) (es : List Event) (ps qs : List Pair) → IsListOf delay k es ps → IsListOf delay k es qs → ps ≡ qs
one_list delay k es ps qs a b =
    rising_unique ps qs a.rising b.rising
    (λ p m. (b.exact p.lower p.higher).1 ((a.exact p.lower p.higher).0 m))
    (λ p m. (a.exact p.lower p.higher).1 ((b.exact p.lower p.higher).0 m))
