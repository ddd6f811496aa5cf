-- The rows that a set of slots holds: what a change, a question, an answer and a row put in make of them, each by the slots that pass.
-- Assumes nothing.
use mathlib.Core.Path.{◌≡◌, refl, sym, ◌∙◌, ap, subst}
use mathlib.Core.Bool.{Bool, true, false, ◌&&◌, ◌||◌, not, cond, or-true, false≢true}
use mathlib.Core.List.{List, [], ◌∷◌}
use Prim.Native.Nat.{ℕ, zero, suc, ◌≤◌, ◌<◌}
use native.Mathlib.Omega.{arith}
use lib.Dec.{eqb, eqb-zero-suc, eqb-suc-zero, eqb-suc-suc}
use lib.ListN.{length, drop, get_or, drop_of_length-le}
use Rattle.basics.proofs.Booleans.{split, and_right}
use Rattle.bit_sets.specs.Inner.{member}
use Rattle.flow.specs.Orders.{opposite}
use Rattle.flow.proofs.Orders.{equal≢less}
use Rattle.flow_table.specs.FlowTable.{entry}
use Rattle.rows.specs.Types.{Ordering}
use Rattle.rows.specs.Rows.{row, row_order, same_slot, RowBefore, SortedRows, insert_row, remove_rows, assign_row, assign_rows, any_row, on_switch}
use Rattle.rows.proofs.RowOrder.{slot_of, row_turn, row_self, like_slot_right, same_slot_iff}
use Rattle.rows_step.specs.Inner.{seen, seen_rows, chosen}
use Rattle.slots.specs.Types.{Action, Answer, Row, Work}
use Rattle.slots.specs.Inner.{with_action, held_rows, mark_at, Marks}

-- ---- a test of the slot alone
abbrev pub OfSlot : (Row → Bool) → Type 0
OfSlot p = (x : Row) (a : Action) → p (with_action x a) ≡ p x

pub of_slot_chosen : (w : Work) → OfSlot (chosen w)
unfolding on_switch
of_slot_chosen w x a = refl

pub mark_inside : (p : Row → Bool) (U : List Row) (i : ℕ) → mark_at p U i ≡ true → i < length U
mark_inside p [] i e = absurd (false≢true e)
mark_inside p (x ∷ xs) zero e = omega arith
mark_inside p (x ∷ xs) (suc i) e = omega (arith, mark_inside p xs i e)

-- ---- the slots past the first
abbrev past : {A : Type 0} → (ℕ → A) → ℕ → A
past f i = f (suc i)

held_next : (h : ℕ → Bool) (a : ℕ → Action) (k : ℕ) (xs : List Row) → held_rows h a (suc k) xs ≡ held_rows (past h) (past a) k xs
unfolding held_rows
held_next h a k [] = refl
held_next h a k (x ∷ xs) = rw (held_next h a (suc k) xs) refl

-- what f makes of the rows past the first slot
past_first : (f : List Row → List Row) (h h' : ℕ → Bool) (a a' : ℕ → Action) (xs : List Row) → f (held_rows (past h) (past a) 0 xs) ≡ held_rows (past h') (past a') 0 xs
    → f (held_rows h a 1 xs) ≡ held_rows h' a' 1 xs
past_first f h h' a a' xs e = ap f (held_next h a 0 xs) ∙ e ∙ sym (held_next h' a' 0 xs)

-- ---- by the slots that pass a test
module _ (p : Row → Bool) (of : OfSlot p) where
  -- the first slot, held or not
  remove_first : (b : Bool) (x : Row) (c : Action) (ys : List Row) → remove_rows p (cond b (with_action x c ∷ ys) ys) ≡ cond (b && not (p x)) (with_action x c ∷ remove_rows p ys) (remove_rows p ys)
  unfolding remove_rows
  remove_first true x c ys = rw (of x c) (split (p x) (λ e. rw e refl) (λ e. rw e refl))
  remove_first false x c ys = refl

  assign_first : (v : Action) (b : Bool) (x : Row) (c : Action) (ys : List Row)
      → assign_rows p v (cond b (with_action x c ∷ ys) ys) ≡ cond b (with_action x (cond (b && p x) v c) ∷ assign_rows p v ys) (assign_rows p v ys)
  unfolding assign_rows assign_row
  assign_first v true x c ys = rw (of x c) refl
  assign_first v false x c ys = refl

  any_first : (b : Bool) (x : Row) (c : Action) (ys : List Row) → any_row p (cond b (with_action x c ∷ ys) ys) ≡ ((b && p x) || any_row p ys)
  unfolding any_row
  any_first true x c ys = rw (of x c) refl
  any_first false x c ys = refl

  seen_first : (ans : Answer) (b : Bool) (x : Row) (c : Action) (ys : List Row)
      → seen_rows p ans (cond b (with_action x c ∷ ys) ys) ≡ seen_rows p (cond (b && p x) (seen ans (entry x.entry.key c)) ans) ys
  unfolding seen_rows
  seen_first ans true x c ys = ap (λ b. seen_rows p (cond b (seen ans (entry x.entry.key c)) ans) ys) (of x c)
  seen_first ans false x c ys = refl

  -- all slots
  drop_marked : (h : ℕ → Bool) (a : ℕ → Action) (U : List Row) → remove_rows p (held_rows h a 0 U) ≡ held_rows (λ i. h i && not (mark_at p U i)) a 0 U
  unfolding held_rows remove_rows
  drop_marked h a [] = refl
  drop_marked h a (x ∷ xs) =
      remove_first (h 0) x (a 0) (held_rows h a 1 xs)
      ∙ rw (past_first (remove_rows p) h (λ i. h i && not (mark_at p (x ∷ xs) i)) a a xs (drop_marked (past h) (past a) xs)) refl

  assign_marked : (v : Action) (h : ℕ → Bool) (a : ℕ → Action) (U : List Row) → assign_rows p v (held_rows h a 0 U) ≡ held_rows h (λ i. cond (h i && mark_at p U i) v (a i)) 0 U
  unfolding held_rows assign_rows
  assign_marked v h a [] = refl
  assign_marked v h a (x ∷ xs) =
      assign_first v (h 0) x (a 0) (held_rows h a 1 xs)
      ∙ rw (past_first (assign_rows p v) h h a (λ i. cond (h i && mark_at p (x ∷ xs) i) v (a i)) xs (assign_marked v (past h) (past a) xs)) refl

  none_marked : (h : ℕ → Bool) (a : ℕ → Action) (U : List Row) → ((k : ℕ) → k < length U → (h k && mark_at p U k) ≡ false) → any_row p (held_rows h a 0 U) ≡ false
  unfolding held_rows any_row
  none_marked h a [] n = refl
  none_marked h a (x ∷ xs) n =
      any_first (h 0) x (a 0) (held_rows h a 1 xs)
      ∙ rw (n 0 (omega arith), held_next h a 0 xs) (none_marked (past h) (past a) xs (λ k l. n (suc k) (omega arith)))

  one_marked : (h : ℕ → Bool) (a : ℕ → Action) (U : List Row) (r : ℕ) → (h r && mark_at p U r) ≡ true → any_row p (held_rows h a 0 U) ≡ true
  unfolding held_rows
  one_marked h a [] r e = absurd (false≢true (and_right (h r) false e))
  one_marked h a (x ∷ xs) zero e = any_first (h 0) x (a 0) (held_rows h a 1 xs) ∙ rw e refl
  one_marked h a (x ∷ xs) (suc r) e =
      any_first (h 0) x (a 0) (held_rows h a 1 xs)
      ∙ rw (held_next h a 0 xs, one_marked (past h) (past a) xs r e) (or-true (h 0 && p x))

  skip_marked : (h : ℕ → Bool) (a : ℕ → Action) (U : List Row) (ans : Answer) (i r : ℕ) → i ≤ r → ((k : ℕ) → i ≤ k → k < r → (h k && mark_at p U k) ≡ false)
      → seen_rows p ans (held_rows h a i (drop i U)) ≡ seen_rows p ans (held_rows h a r (drop r U))
  unfolding held_rows
  skip_marked h a U ans zero zero l n = refl
  skip_marked h a [] ans zero (suc r) l n = refl
  skip_marked h a (x ∷ xs) ans zero (suc r) l n =
      seen_first ans (h 0) x (a 0) (held_rows h a 1 xs)
      ∙ rw (n 0 (omega arith) (omega arith), held_next h a 0 xs, held_next h a r (drop r xs)) (skip_marked (past h) (past a) xs ans 0 r (omega arith) (λ k u v. n (suc k) (omega arith) (omega arith)))
  skip_marked h a U ans (suc i) zero l n = absurd (omega arith)
  skip_marked h a [] ans (suc i) (suc r) l n = refl
  skip_marked h a (x ∷ xs) ans (suc i) (suc r) l n =
      rw (held_next h a i (drop i xs), held_next h a r (drop r xs)) (skip_marked (past h) (past a) xs ans i r (omega arith) (λ k u v. n (suc k) (omega arith) (omega arith)))

  turn_marked : (h : ℕ → Bool) (a : ℕ → Action) (U : List Row) (ans : Answer) (r : ℕ) (d : Row) → (h r && mark_at p U r) ≡ true
      → seen_rows p ans (held_rows h a r (drop r U)) ≡ seen_rows p (seen ans (entry (get_or U r d).entry.key (a r))) (held_rows h a (suc r) (drop (suc r) U))
  unfolding held_rows
  turn_marked h a [] ans r d e = absurd (false≢true (and_right (h r) false e))
  turn_marked h a (x ∷ xs) ans zero d e = seen_first ans (h 0) x (a 0) (held_rows h a 1 xs) ∙ rw e refl
  turn_marked h a (x ∷ xs) ans (suc r) d e =
      rw (held_next h a r (drop r xs), held_next h a (suc r) (drop (suc r) xs)) (turn_marked (past h) (past a) xs ans r d e)

-- the same, by a set that is said to be that of the slots that pass
module _ (p : Row → Bool) (of : OfSlot p) (U : List Row) (mask : List ℕ) (marks : Marks p U mask) (h : ℕ → Bool) (a : ℕ → Action) where
  at_mark : (k : ℕ) {b : Bool} → (h k && member mask k) ≡ b → (h k && mark_at p U k) ≡ b
  at_mark k e = sym (ap (λ c. h k && c) (marks k)) ∙ e

  pub held_drop : remove_rows p (held_rows h a 0 U) ≡ held_rows (λ i. h i && not (member mask i)) a 0 U
  held_drop = drop_marked p of h a U ∙ (λ j. held_rows (λ i. h i && not (sym (marks i) j)) a 0 U)

  pub held_assign : (v : Action) → assign_rows p v (held_rows h a 0 U) ≡ held_rows h (λ i. cond (h i && member mask i) v (a i)) 0 U
  held_assign v = assign_marked p of v h a U ∙ (λ j. held_rows h (λ i. cond (h i && sym (marks i) j) v (a i)) 0 U)

  -- one is held and marked, or none
  pub held_any : (r : ℕ) → (h r && member mask r) ≡ true → any_row p (held_rows h a 0 U) ≡ true
  held_any r e = one_marked p of h a U r (at_mark r e)

  pub held_none_marked : ((k : ℕ) → (h k && member mask k) ≡ false) → any_row p (held_rows h a 0 U) ≡ false
  held_none_marked n = none_marked p of h a U (λ k l. at_mark k (n k))

  pub seen_skip : (ans : Answer) (i r : ℕ) → i ≤ r → ((k : ℕ) → i ≤ k → k < r → (h k && member mask k) ≡ false)
      → seen_rows p ans (held_rows h a i (drop i U)) ≡ seen_rows p ans (held_rows h a r (drop r U))
  seen_skip ans i r l n = skip_marked p of h a U ans i r l (λ k u v. at_mark k (n k u v))

  pub seen_turn : (ans : Answer) (r : ℕ) (d : Row) → (h r && member mask r) ≡ true
      → seen_rows p ans (held_rows h a r (drop r U)) ≡ seen_rows p (seen ans (entry (get_or U r d).entry.key (a r))) (held_rows h a (suc r) (drop (suc r) U))
  seen_turn ans r d e = turn_marked p of h a U ans r d (at_mark r e)

  pub seen_end : (ans : Answer) (r : ℕ) → length U ≤ r → seen_rows p ans (held_rows h a r (drop r U)) ≡ ans
  unfolding held_rows seen_rows
  seen_end ans r l = rw (drop_of_length-le U l) refl

-- ---- states that are alike, and their rows
-- one slot
first_as : (b b' : Bool) (x x' : Row) (ys ys' : List Row) → b ≡ b' → (b ≡ true → x ≡ x') → ys ≡ ys' → cond b (x ∷ ys) ys ≡ cond b' (x' ∷ ys') ys'
first_as true b' x x' ys ys' e f g = rw (← e, f refl, g) refl
first_as false b' x x' ys ys' e f g = rw (← e, g) refl

pub held_as : (h h' : ℕ → Bool) (a a' : ℕ → Action) (U : List Row) → ((i : ℕ) → i < length U → h i ≡ h' i) → ((i : ℕ) → i < length U → h i ≡ true → a i ≡ a' i)
    → held_rows h a 0 U ≡ held_rows h' a' 0 U
unfolding held_rows
held_as h h' a a' [] e f = refl
held_as h h' a a' (x ∷ xs) e f =
    first_as (h 0) (h' 0) (with_action x (a 0)) (with_action x (a' 0)) (held_rows h a 1 xs) (held_rows h' a' 1 xs) (e 0 (omega arith)) (λ u. ap (with_action x) (f 0 (omega arith) u))
    (past_first (λ r. r) h h' a a' xs (held_as (past h) (past h') (past a) (past a') xs (λ i l. e (suc i) (omega arith)) (λ i l. f (suc i) (omega arith))))

pub held_none : (h : ℕ → Bool) (a : ℕ → Action) (U : List Row) → ((i : ℕ) → i < length U → h i ≡ false) → held_rows h a 0 U ≡ []
unfolding held_rows
held_none h a [] n = refl
held_none h a (x ∷ xs) n = rw (n 0 (omega arith), held_next h a 0 xs) (held_none (past h) (past a) xs (λ i l. n (suc i) (omega arith)))

-- ---- slots in order
module _ (h : ℕ → Bool) (a : ℕ → Action) where
  held_before : (y : Row) (c : Action) (k : ℕ) (U : List Row) → RowBefore y U → RowBefore (with_action y c) (held_rows h a k U)
  unfolding held_rows row_order
  held_before y c k [] b = tt
  held_before y c k (x ∷ xs) b = split (h k) (λ u. rw u (b.0, held_before y c (suc k) xs b.1)) (λ u. rw u (held_before y c (suc k) xs b.1))

  sorted_from : (k : ℕ) (U : List Row) → SortedRows U → SortedRows (held_rows h a k U)
  unfolding held_rows
  sorted_from k [] s = tt
  sorted_from k (x ∷ xs) s = split (h k) (λ u. rw u (held_before x (a k) (suc k) xs s.0, sorted_from (suc k) xs s.1)) (λ u. rw u (sorted_from (suc k) xs s.1))

  pub held_sorted : (U : List Row) → SortedRows U → SortedRows (held_rows h a 0 U)
  held_sorted U s = sorted_from 0 U s

-- ---- a row put in
-- before all
insert_before : (r : Row) (xs : List Row) → RowBefore r xs → insert_row r xs ≡ r ∷ xs
unfolding insert_row
insert_before r [] b = refl
insert_before r (x ∷ xs) b = rw b.0 refl

-- at the first slot, held or not
insert_here : (b : Bool) (x : Row) (c v : Action) (ys : List Row) → RowBefore (with_action x v) ys → insert_row (with_action x v) (cond b (with_action x c ∷ ys) ys) ≡ with_action x v ∷ ys
unfolding insert_row
insert_here true x c v ys l = rw (like_slot_right (with_action x v) (with_action x c) (with_action x v) refl, row_self (with_action x v)) refl
insert_here false x c v ys l = insert_before (with_action x v) ys l

-- past it
insert_past : (b : Bool) (r x : Row) (c : Action) (ys : List Row) → row_order r (with_action x c) ≡ Ordering.Greater
    → insert_row r (cond b (with_action x c ∷ ys) ys) ≡ cond b (with_action x c ∷ insert_row r ys) (insert_row r ys)
unfolding insert_row
insert_past true r x c ys g = rw g refl
insert_past false r x c ys g = refl

-- a row before all of a list is before what has a slot of the list
before_mark : (x r : Row) (xs : List Row) (s : ℕ) → RowBefore x xs → mark_at (same_slot r) xs s ≡ true → row_order x r ≡ Ordering.Less
before_mark x r [] s b e = absurd (false≢true e)
before_mark x r (y ∷ ys) zero b e = like_slot_right x r y ((same_slot_iff r y).0 e) ∙ b.0
before_mark x r (y ∷ ys) (suc s) b e = before_mark x r ys s b.1 e

-- the row of its own slot
own_slot : (r x : Row) → slot_of r ≡ slot_of x → with_action x r.entry.action ≡ r
own_slot r x e = ap (λ t. row t.switch (entry t.key r.entry.action)) (sym e)

pub held_put : (h : ℕ → Bool) (a : ℕ → Action) (U : List Row) → SortedRows U → (r : Row) (s : ℕ) → mark_at (same_slot r) U s ≡ true
    → insert_row r (held_rows h a 0 U) ≡ held_rows (λ i. eqb i s || h i) (λ i. cond (eqb i s) r.entry.action (a i)) 0 U
unfolding held_rows
held_put h a [] o r s e = absurd (false≢true e)
held_put h a (x ∷ xs) o r zero e =
    ap (λ t. insert_row t (held_rows h a 0 (x ∷ xs))) (sym (own_slot r x ((same_slot_iff r x).0 e)))
    ∙ insert_here (h 0) x (a 0) v (held_rows h a 1 xs) (held_before h a x v 1 xs o.0)
    ∙ ap (λ ys. with_action x v ∷ ys)
    (past_first (λ ys. ys) h (λ i. eqb i 0 || h i) a (λ i. cond (eqb i 0) v (a i)) xs
    (λ j. held_rows (λ i. sym (eqb-suc-zero i) j || h (suc i)) (λ i. cond (sym (eqb-suc-zero i) j) v (a (suc i))) 0 xs))
  where
    v : Action
    v = r.entry.action
held_put h a (x ∷ xs) o r (suc s) e =
    insert_past (h 0) r x (a 0) (held_rows h a 1 xs) after
    ∙ rw (
      eqb-zero-suc s,
      past_first (insert_row r) h (λ i. eqb i (suc s) || h i) a (λ i. cond (eqb i (suc s)) v (a i)) xs
          (held_put (past h) (past a) xs o.1 r s e
          ∙ (λ j. held_rows (λ i. sym (eqb-suc-suc i s) j || h (suc i)) (λ i. cond (sym (eqb-suc-suc i s) j) v (a (suc i))) 0 xs)),
    ) refl
  where
    v : Action
    v = r.entry.action

    after : row_order r (with_action x (a 0)) ≡ Ordering.Greater
    after = like_slot_right r (with_action x (a 0)) x refl ∙ row_turn x r ∙ ap opposite (before_mark x r xs s o.0 e)

-- ---- the same rows, the same state
-- rows that a row is before don't begin with it
never_first : (x : Row) (xs ys : List Row) → RowBefore x ys → x ∷ xs ≡ ys → ⊥
never_first x xs ys b e = equal≢less (sym (row_self x) ∙ (subst (RowBefore x) (sym e) b).0)

-- the first slot, held or not
first_same : (b b' : Bool) (x : Row) (c c' : Action) (ys ys' : List Row) → RowBefore (with_action x c) ys' → RowBefore (with_action x c') ys
    → cond b (with_action x c ∷ ys) ys ≡ cond b' (with_action x c' ∷ ys') ys' → ((b ≡ b') × (b ≡ true → c ≡ c')) × (ys ≡ ys')
first_same true true x c c' ys ys' l l' e = let q : with_action x c ≡ with_action x c' = cc in ((refl, λ u. ap (λ r. r.entry.action) q), cc)
first_same true false x c c' ys ys' l l' e = absurd (never_first (with_action x c) ys ys' l e)
first_same false true x c c' ys ys' l l' e = absurd (never_first (with_action x c') ys' ys l' (sym e))
first_same false false x c c' ys ys' l l' e = ((refl, λ u. absurd (false≢true u)), e)

slot_same : (h h' : ℕ → Bool) (a a' : ℕ → Action) (x : Row) (xs : List Row) → RowBefore x xs → held_rows h a 0 (x ∷ xs) ≡ held_rows h' a' 0 (x ∷ xs)
    → ((h 0 ≡ h' 0) × (h 0 ≡ true → a 0 ≡ a' 0)) × (held_rows h a 1 xs ≡ held_rows h' a' 1 xs)
unfolding held_rows
slot_same h h' a a' x xs b =
    first_same (h 0) (h' 0) x (a 0) (a' 0) (held_rows h a 1 xs) (held_rows h' a' 1 xs) (held_before h' a' x (a 0) 1 xs b) (held_before h a x (a' 0) 1 xs b)

pub held_same : (h h' : ℕ → Bool) (a a' : ℕ → Action) (U : List Row) → SortedRows U → held_rows h a 0 U ≡ held_rows h' a' 0 U
    → (i : ℕ) → i < length U → (h i ≡ h' i) × (h i ≡ true → a i ≡ a' i)
held_same h h' a a' [] s e i l = absurd (omega arith)
held_same h h' a a' (x ∷ xs) s e zero l = (slot_same h h' a a' x xs s.0 e).0
held_same h h' a a' (x ∷ xs) s e (suc i) l =
    held_same (past h) (past h') (past a) (past a') xs s.1 (sym (held_next h a 0 xs) ∙ (slot_same h h' a a' x xs s.0 e).1 ∙ held_next h' a' 0 xs) i (omega arith)
