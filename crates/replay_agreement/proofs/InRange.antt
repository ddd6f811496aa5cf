-- What is in range stays in range: the tables that an order leaves (`end_in_range`), and its answers (`answers_short`), of which a
-- count has at most three digits. Assumes nothing.
use mathlib.Core.Path.{refl}
use mathlib.Core.Bool.{Bool, true, false, not, cond}
use Rattle.std.specs.Prelude.{Option, None, Some}
use mathlib.Core.Logic.{⊎_elim}
use mathlib.Core.List.Memᴰ
use mathlib.Core.List.{List, [], ◌∷◌, Memᴰ}
use Prim.Native.Nat.{ℕ, suc, ◌+◌, ◌≤◌, ◌<◌}
use native.Mathlib.Omega.{arith}
use lib.Dec.{eqb}
use lib.ListN.{length}
use Rattle.basics.proofs.Booleans.{split}
use Rattle.flow.specs.Entries.{key_order, same_key, KeyInRange, ActionInRange, EntryInRange}
use Rattle.flow_table.specs.FlowTable.{Table, TableInRange, EffectInRange, entry, insert_by, insert, remove_if, assign_if, any_of, inside, clash, admits, fitting, highest, at_priority, first_at, best, effect_of, after, answer}
use Rattle.flow_table.specs.Switches.{Tables, switch_of, step_of, answer_of}
use Rattle.flow_table.proofs.Effects.{length_remove, length_after}
use Rattle.order_meaning.specs.Tables.{end_tables, answers}
use Rattle.rows.specs.Rows.{table_of}
use Rattle.replay_answers.proofs.AnswerLines.{AnswerShort}
use Rattle.replay_agreement.specs.Types.{Answer, Operation, Effect, Action, Key, Entry, Ordering, Row}

-- ---- one event
range_insert : (k : Key) (a : Action) (t : Table) → KeyInRange k → ActionInRange a → TableInRange t → TableInRange (insert k a t)
range_insert k a [] h g r = (record { key = h; action = g }, tt)
range_insert k a (e ∷ t) h g r = go (key_order k e.key) (range_insert k a t h g r.1)
  where
    go : (o : Ordering) → TableInRange (insert k a t) → TableInRange (insert_by o (entry k a) e t (insert k a t))
    go Ordering.Less ih = (record { key = h; action = g }, r)
    go Ordering.Equal ih = (record { key = h; action = g }, r.1)
    go Ordering.Greater ih = (r.0, ih)

range_remove : (p : Key → Bool) (t : Table) → TableInRange t → TableInRange (remove_if p t)
range_remove p [] r = tt
range_remove p (e ∷ t) r = go (p e.key) (range_remove p t r.1)
  where
    go : (b : Bool) → TableInRange (remove_if p t) → TableInRange (cond b (remove_if p t) (e ∷ remove_if p t))
    go true ih = ih
    go false ih = (r.0, ih)

range_assign : (p : Key → Bool) (a : Action) (t : Table) → ActionInRange a → TableInRange t → TableInRange (assign_if p a t)
range_assign p a [] g r = tt
range_assign p a (e ∷ t) g r = (record { key = r.0.key; action = go (p e.key) }, range_assign p a t g r.1)
  where
    go : (b : Bool) → ActionInRange (cond b a e.action)
    go true = g
    go false = r.0.action

range_after : (v : Effect) (t : Table) → EffectInRange v → TableInRange t → TableInRange (after v t)
unfolding after
range_after (Effect.Pkt p) t h r = r
range_after (Effect.Add k a) t h r = range_insert k a t h.0 h.1 r
range_after (Effect.Addc k a) t h r = split (any_of (clash k) t) (λ e. rw e r) (λ e. rw e (range_insert k a t h.0 h.1 r))
range_after (Effect.Modn k a) t h r =
    split (any_of (inside k.pattern) t) (λ e. rw e (range_assign (inside k.pattern) a t h.1 r)) (λ e. rw e (range_insert k a t h.0 h.1 r))
range_after (Effect.Dels k) t h r = range_remove (same_key k) t r
range_after (Effect.Deln m) t h r = range_remove (inside m) t r
range_after Effect.Idle t h r = r

-- ---- its answer, if there is one
abbrev pub Short : Option Answer → Type 0
Short None = Unit {0}
Short (Some a) = AnswerShort a

highest_range : (t : Table) → TableInRange t → highest t < 65536
highest_range [] r = omega arith
highest_range (e ∷ t) r = omega (arith, highest_range t r.1, r.0.key.priority)

first_short : (n : ℕ) (t : Table) → n < 65536 → length t < 1000 → TableInRange t → AnswerShort (first_at n t)
first_short n [] h l r = tt
first_short n (e ∷ t) h l r = (h, l, r.0.action)

best_short : (t : Table) → length t < 1000 → TableInRange t → AnswerShort (best t)
unfolding best
best_short t l r =
    let n = highest t in
    first_short n (at_priority n t) (highest_range t r) (omega (arith, length_remove (λ k. not (eqb k.priority n)) t)) (range_remove (λ k. not (eqb k.priority n)) t r)

answer_short : (v : Effect) (t : Table) → length t < 1000 → TableInRange t → AnswerShort (answer v t)
unfolding answer
answer_short (Effect.Pkt p) t l r =
    best_short (fitting p t) (omega (arith, length_remove (λ k. not (admits p k)) t)) (range_remove (λ k. not (admits p k)) t r)
answer_short (Effect.Add k a) t l r = tt
answer_short (Effect.Addc k a) t l r = tt
answer_short (Effect.Modn k a) t l r = tt
answer_short (Effect.Dels k) t l r = tt
answer_short (Effect.Deln m) t l r = tt
answer_short Effect.Idle t l r = tt

-- ---- the events of an order, each in range
module _ (ev : ℕ → Operation) (range : (i : ℕ) → EffectInRange (effect_of (ev i))) where
  step_in_range : (i : ℕ) (ts : Tables) → ((w : ℕ) → TableInRange (ts w)) → (w : ℕ) → TableInRange (step_of (ev i) ts w)
  unfolding step_of
  step_in_range i ts h w = split (eqb w (switch_of (ev i))) (λ e. rw e (range_after (effect_of (ev i)) (ts w) (range i) (h w))) (λ e. rw e (h w))

  pub end_in_range : (o : List ℕ) (ts : Tables) → ((w : ℕ) → TableInRange (ts w)) → (w : ℕ) → TableInRange (end_tables ev o ts w)
  end_in_range [] ts h w = h w
  end_in_range (i ∷ o) ts h w = end_in_range o (step_of (ev i) ts) (step_in_range i ts h) w

  step_length : (i : ℕ) (ts : Tables) (w : ℕ) → length (step_of (ev i) ts w) ≤ suc (length (ts w))
  unfolding step_of
  step_length i ts w = split (eqb w (switch_of (ev i))) (λ e. rw e (length_after (effect_of (ev i)) (ts w))) (λ e. rw e (omega arith))

  -- the answers, where every table has fewer than a thousand entries throughout
  pub answers_short : (o : List ℕ) (ts : Tables) → ((w : ℕ) → TableInRange (ts w)) → ((w : ℕ) → length (ts w) + length o < 1000) → (i : ℕ) → Short (answers ev o ts i)
  unfolding answer_of
  answers_short [] ts h l i = tt
  answers_short (j ∷ o) ts h l i =
      go (eqb i j) (answers_short o (step_of (ev j) ts) (step_in_range j ts h) (λ w. omega (arith, l w, step_length j ts w)) i)
    where
      go : (b : Bool) → Short (answers ev o (step_of (ev j) ts) i) → Short (cond b (Some (answer_of (ev j) ts)) (answers ev o (step_of (ev j) ts) i))
      go true ih = answer_short (effect_of (ev j)) (ts (switch_of (ev j))) (omega (arith, l (switch_of (ev j)))) (h (switch_of (ev j)))
      go false ih = ih

-- ---- the tables of rows
pub table_in_range : (w : ℕ) (rs : List Row) → ((r : Row) → Memᴰ r rs → EntryInRange r.entry) → TableInRange (table_of w rs)
table_in_range w [] h = tt
table_in_range w (x ∷ xs) h = go (eqb w x.switch) (table_in_range w xs (λ r m. h r (Memᴰ.tail m)))
  where
    go : (b : Bool) → TableInRange (table_of w xs) → TableInRange (cond b (x.entry ∷ table_of w xs) (table_of w xs))
    go true ih = (h x (Memᴰ.head refl), ih)
    go false ih = ih

-- an entry of a table in range
pub entry_in_range : (t : Table) → TableInRange t → (e : Entry) → Memᴰ e t → EntryInRange e
entry_in_range [] r e m = absurd (Memᴰ.not-nil m)
entry_in_range (x ∷ t) r e m = ⊎_elim (λ q. rw q r.0) (entry_in_range t r.1 e) (Memᴰ.cases_cons m)
