-- A packet's answer in one pass: the highest priority so far, how many entries fit at it, and the action of the first of those; at
-- the end it is what is said under Flow table. Assumes nothing.
use mathlib.Core.Path.{◌≡◌, refl, sym, ◌∙◌, ap}
use mathlib.Core.Bool.{Bool, true, false, ◌&&◌, cond}
use mathlib.Core.List.{List, [], ◌∷◌}
use Prim.Native.Nat.{ℕ, suc, ◌+◌, ◌≤◌, ◌<◌, max}
use native.Mathlib.Nat.{add-zero, le-max_left, le-max_right, max-le, max-eq_left, max-eq_right}
use native.Mathlib.Numerals.{one-add}
use native.Mathlib.Omega.{arith}
use lib.Dec.{eqb, ltb}
use lib.ListN.{length}
use borrow.Author.Tests.{ltb-true, ltb-false, eqb-true, eqb-false, lt-ltb, le-ltb, eq-eqb, ne_eqb}
use Rattle.basics.proofs.Booleans.{split}
use Rattle.flow_table.specs.FlowTable.{Table, admits, fitting, highest, at_priority, first_at, best}
use Rattle.rows.specs.Rows.{table_of, on_switch}
use Rattle.rows_step.specs.Types.{Action, Packet, Entry, Answer, Row}
use Rattle.rows_step.specs.Inner.{seen_at, seen, seen_rows}

-- ---- the pass on a table
abbrev seen_all : Answer → Table → Answer
seen_all h [] = h
seen_all h (e ∷ t) = seen_all (seen h e) t

best_cons : (e : Entry) (t : Table) → best (e ∷ t) ≡ cond (ltb e.key.priority (highest t)) (best t) (Answer.Hit e.key.priority (suc (length (at_priority e.key.priority t))) e.action)
unfolding best
best_cons e t =
    split (ltb e.key.priority (highest t))
    (λ u. let h = ltb-true e.key.priority (highest t) u in
    at_highest (max-eq_right {n = e.key.priority} {m = highest t} (omega arith)) ∙ rw (u, ne_eqb e.key.priority (highest t) (λ q. omega arith)) refl)
    (λ u. at_highest (max-eq_left {n = e.key.priority} {m = highest t} (ltb-false e.key.priority (highest t) u)) ∙ rw (u, eq-eqb e.key.priority e.key.priority refl) refl)
  where
    at_highest : {p : ℕ} → max e.key.priority (highest t) ≡ p → first_at (max e.key.priority (highest t)) (at_priority (max e.key.priority (highest t)) (e ∷ t)) ≡ first_at p (at_priority p (e ∷ t))
    at_highest q = ap (λ p. first_at p (at_priority p (e ∷ t))) q

-- what the pass makes of the rest of a table
Rest : ℕ → ℕ → Action → Table → Type 0
Rest b n a t = seen_all (Answer.Hit b n a) t ≡ cond (ltb b (highest t)) (best t) (Answer.Hit b (n + length (at_priority b t)) a)

-- an entry of no higher priority leaves the highest of the rest what counts
below_max : (b p h : ℕ) → p ≤ b → ltb b (max p h) ≡ ltb b h
below_max b p h g =
    split (ltb b h)
    (λ u. lt-ltb b (max p h) (omega (arith, ltb-true b h u, le-max_right p h)) ∙ sym u)
    (λ u. le-ltb b (max p h) (max-le g (ltb-false b h u)) ∙ sym u)

module _ (b n : ℕ) (a : Action) (e : Entry) (t : Table) where
  rest_higher : b < e.key.priority → Rest e.key.priority 1 e.action t → Rest b n a (e ∷ t)
  unfolding Rest seen seen_at
  rest_higher h r =
      let u : ltb b (max e.key.priority (highest t)) ≡ true = lt-ltb b _ (omega (arith, le-max_left e.key.priority (highest t))) in
      rw (lt-ltb b e.key.priority h, u) (r ∙ rw one-add (sym (best_cons e t)))

  rest_same : b ≡ e.key.priority → Rest b (n + 1) a t → Rest b n a (e ∷ t)
  unfolding Rest seen seen_at
  rest_same h r =
      rw (le-ltb b e.key.priority (omega arith), eq-eqb b e.key.priority h, below_max b e.key.priority (highest t) (omega arith), eq-eqb e.key.priority b (sym h))
      (r ∙ split (ltb b (highest t))
      (λ u. rw u (sym (best_cons e t ∙ rw (ap (λ k. ltb k (highest t)) (sym h) ∙ u) refl)))
      (λ u. rw u (ap (λ k. Answer.Hit b k a) (omega arith))))

  rest_lower : e.key.priority < b → Rest b n a t → Rest b n a (e ∷ t)
  unfolding Rest seen seen_at
  rest_lower h r =
      rw (le-ltb b e.key.priority (omega arith), ne_eqb b e.key.priority (λ q. omega arith), below_max b e.key.priority (highest t) (omega arith), ne_eqb e.key.priority b (λ q. omega arith))
      (r ∙ split (ltb b (highest t))
      (λ u. rw u (sym (best_cons e t ∙ rw (lt-ltb e.key.priority (highest t) (omega (arith, ltb-true b (highest t) u))) refl)))
      (λ u. rw u refl))

seen_rest : (b n : ℕ) (a : Action) (t : Table) → Rest b n a t
unfolding Rest
seen_rest b n a [] = rw (le-ltb b 0 (omega arith), add-zero n) refl
seen_rest b n a (e ∷ t) =
    split (ltb b e.key.priority)
    (λ u. rest_higher b n a e t (ltb-true b e.key.priority u) (seen_rest e.key.priority 1 e.action t))
    (λ u. split (eqb b e.key.priority)
    (λ v. rest_same b n a e t (eqb-true b e.key.priority v) (seen_rest b (n + 1) a t))
    (λ v. rest_lower b n a e t (omega (arith, ltb-false b e.key.priority u, eqb-false b e.key.priority v)) (seen_rest b n a t)))

seen_best : (t : Table) → seen_all Answer.Miss t ≡ best t
unfolding best Rest seen
seen_best [] = refl
seen_best (e ∷ t) = seen_rest e.key.priority 1 e.action t ∙ rw one-add (sym (best_cons e t))

-- ---- the pass on rows
module _ (w : ℕ) (p : Packet) where
  seen_rows_lem : (h : Answer) (rs : List Row) → seen_rows (on_switch w (admits p)) h rs ≡ seen_all h (fitting p (table_of w rs))
  unfolding seen_rows on_switch
  seen_rows_lem h [] = refl
  seen_rows_lem h (x ∷ xs) = go (eqb w x.switch) (admits p x.entry.key) refl (λ g. seen_rows_lem g xs)
    where
      go : (b c : Bool) → admits p x.entry.key ≡ c → ((g : Answer) → seen_rows (on_switch w (admits p)) g xs ≡ seen_all g (fitting p (table_of w xs)))
          → seen_rows (on_switch w (admits p)) (cond (b && c) (seen h x.entry) h) xs ≡ seen_all h (fitting p (cond b (x.entry ∷ table_of w xs) (table_of w xs)))
      go true true v ih = rw v (ih (seen h x.entry))
      go true false v ih = rw v (ih h)
      go false c v ih = ih h

  -- the whole pass answers what is said under Flow table
  pub lookup_best : (rs : List Row) → seen_rows (on_switch w (admits p)) Answer.Miss rs ≡ best (fitting p (table_of w rs))
  lookup_best rs = seen_rows_lem Answer.Miss rs ∙ seen_best (fitting p (table_of w rs))
