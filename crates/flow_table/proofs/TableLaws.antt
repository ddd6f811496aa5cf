-- Laws of the table: the order kept by each change, what is found at a key after each, and that what is found at the keys
-- determines the table. Assumes nothing.
use mathlib.Core.Path.{◌≡◌, refl, sym, ◌∙◌, ap, ap₂}
use mathlib.Core.Bool.{Bool, true, false, ◌||◌, cond, true≢false}
use Rattle.std.specs.Prelude.{Option, None, Some}
use Rattle.std.proofs.lemmas.Option.{none-some, same_Some}
use mathlib.Core.Logic.{⊎_elim}
use mathlib.Core.List.Memᴰ
use mathlib.Core.List.{[], ◌∷◌, Memᴰ}
use Rattle.basics.proofs.Booleans.{split, cond_same, cond_swap}
use Rattle.flow.proofs.Entries.{key_order_lem, same_eq, same_self, less_differ, greater_less, greater_differ}
use Rattle.flow.specs.Entries.{key_order, same_key}
use Rattle.flow_table.specs.Types.{Action, Key, Entry, Ordering}
use Rattle.flow_table.specs.FlowTable.{Table, entry, Before, Sorted, get, insert_by, insert, remove_if, assign_if, any_of, overwrite}

-- order kept
pub before_chain : (j k : Key) (t : Table) → key_order j k ≡ Ordering.Less → Before k t → Before j t
before_chain j k [] h b = tt
before_chain j k (e ∷ t) h b = (key_order_lem.chain j k e.key h b.0, before_chain j k t h b.1)

before_insert : (j k : Key) (a : Action) (t : Table) → key_order j k ≡ Ordering.Less → Before j t → Before j (insert k a t)
before_insert j k a [] h b = (h, tt)
before_insert j k a (e ∷ t) h b = go (key_order k e.key) (before_insert j k a t h b.1)
  where
    go : (o : Ordering) → Before j (insert k a t) → Before j (insert_by o (entry k a) e t (insert k a t))
    go Ordering.Less ih = (h, b)
    go Ordering.Equal ih = (h, b.1)
    go Ordering.Greater ih = (b.0, ih)

pub sorted_insert : (k : Key) (a : Action) (t : Table) → Sorted t → Sorted (insert k a t)
sorted_insert k a [] s = (tt, tt)
sorted_insert k a (e ∷ t) s = go (key_order k e.key) refl (sorted_insert k a t s.1)
  where
    go : (o : Ordering) → key_order k e.key ≡ o → Sorted (insert k a t) → Sorted (insert_by o (entry k a) e t (insert k a t))
    go Ordering.Less q ih = ((q, before_chain k e.key t q s.0), s)
    go Ordering.Equal q ih = (rw (key_order_lem.same k e.key q) s.0, s.1)
    go Ordering.Greater q ih = (before_insert e.key k a t (greater_less k e.key q) s.0, ih)

before_remove : (j : Key) (p : Key → Bool) (t : Table) → Before j t → Before j (remove_if p t)
before_remove j p [] b = tt
before_remove j p (e ∷ t) b = go (p e.key) (before_remove j p t b.1)
  where
    go : (c : Bool) → Before j (remove_if p t) → Before j (cond c (remove_if p t) (e ∷ remove_if p t))
    go true ih = ih
    go false ih = (b.0, ih)

pub sorted_remove : (p : Key → Bool) (t : Table) → Sorted t → Sorted (remove_if p t)
sorted_remove p [] s = tt
sorted_remove p (e ∷ t) s = go (p e.key) (sorted_remove p t s.1)
  where
    go : (c : Bool) → Sorted (remove_if p t) → Sorted (cond c (remove_if p t) (e ∷ remove_if p t))
    go true ih = ih
    go false ih = (before_remove e.key p t s.0, ih)

before_assign : (j : Key) (p : Key → Bool) (a : Action) (t : Table) → Before j t → Before j (assign_if p a t)
before_assign j p a [] b = tt
before_assign j p a (e ∷ t) b = (b.0, before_assign j p a t b.1)

pub sorted_assign : (p : Key → Bool) (a : Action) (t : Table) → Sorted t → Sorted (assign_if p a t)
sorted_assign p a [] s = tt
sorted_assign p a (e ∷ t) s = (before_assign e.key p a t s.0, sorted_assign p a t s.1)

-- what is found at a key
pub get_insert : (k j : Key) (a : Action) (t : Table) → get k (insert j a t) ≡ cond (same_key k j) (Some a) (get k t)
get_insert k j a [] = refl
get_insert k j a (e ∷ t) = go (key_order j e.key) refl (get_insert k j a t)
  where
    go : (o : Ordering) → key_order j e.key ≡ o → get k (insert j a t) ≡ cond (same_key k j) (Some a) (get k t)
        → get k (insert_by o (entry j a) e t (insert j a t)) ≡ cond (same_key k j) (Some a) (get k (e ∷ t))
    go Ordering.Less q ih = refl
    go Ordering.Equal q ih = rw (← key_order_lem.same j e.key q) (sym (cond_same (same_key k j) (Some a) (Some e.action) (get k t)))
    go Ordering.Greater q ih = rw ih (cond_swap (same_key k e.key) (same_key k j) (Some e.action) (Some a) (get k t)
        (λ u v. greater_differ j e.key q (sym (same_eq k j v) ∙ same_eq k e.key u)))

pub get_remove : (k : Key) (p : Key → Bool) (t : Table) → get k (remove_if p t) ≡ cond (p k) None (get k t)
get_remove k p [] = go (p k)
  where
    go : (c : Bool) → ◌≡◌ {A = Option Action} None (cond c None None)
    go true = refl
    go false = refl
get_remove k p (e ∷ t) = go (p e.key) refl (same_key k e.key) refl (get_remove k p t)
  where
    go : (c : Bool) → p e.key ≡ c → (d : Bool) → same_key k e.key ≡ d → get k (remove_if p t) ≡ cond (p k) None (get k t)
        → get k (cond c (remove_if p t) (e ∷ remove_if p t)) ≡ cond (p k) None (cond d (Some e.action) (get k t))
    go true u true v ih = let w : p k ≡ true = ap p (same_eq k e.key v) ∙ u in rw (ih, w) refl
    go true u false v ih = ih
    go false u true v ih = let w : p k ≡ false = ap p (same_eq k e.key v) ∙ u in rw (v, w) refl
    go false u false v ih = rw v ih

pub get_assign : (k : Key) (p : Key → Bool) (a : Action) (t : Table) → get k (assign_if p a t) ≡ cond (p k) (overwrite a (get k t)) (get k t)
get_assign k p a [] = go (p k)
  where
    go : (c : Bool) → ◌≡◌ {A = Option Action} None (cond c None None)
    go true = refl
    go false = refl
get_assign k p a (e ∷ t) = go (same_key k e.key) refl (get_assign k p a t)
  where
    at : (c : Bool) → Some (cond c a e.action) ≡ cond c (Some a) (Some e.action)
    at true = refl
    at false = refl

    go : (d : Bool) → same_key k e.key ≡ d → get k (assign_if p a t) ≡ cond (p k) (overwrite a (get k t)) (get k t)
        → cond d (Some (cond (p e.key) a e.action)) (get k (assign_if p a t)) ≡ cond (p k) (overwrite a (cond d (Some e.action) (get k t))) (cond d (Some e.action) (get k t))
    go true v ih = rw (same_eq k e.key v) (at (p e.key))
    go false v ih = ih

-- what some entry has
pub any_insert : (p : Key → Bool) (j : Key) (a : Action) (t : Table) → any_of p (insert j a t) ≡ p j || any_of p t
any_insert p j a [] = refl
any_insert p j a (e ∷ t) = go (key_order j e.key) refl (any_insert p j a t)
  where
    or_same : (x y : Bool) → (x || y) ≡ (x || (x || y))
    or_same true y = refl
    or_same false y = refl

    or_swap : (x y z : Bool) → (x || (y || z)) ≡ (y || (x || z))
    or_swap true true z = refl
    or_swap true false z = refl
    or_swap false y z = refl

    go : (o : Ordering) → key_order j e.key ≡ o → any_of p (insert j a t) ≡ p j || any_of p t
        → any_of p (insert_by o (entry j a) e t (insert j a t)) ≡ p j || (p e.key || any_of p t)
    go Ordering.Less q ih = refl
    go Ordering.Equal q ih = rw (← key_order_lem.same j e.key q) (or_same (p j) (any_of p t))
    go Ordering.Greater q ih = rw ih (or_swap (p e.key) (p j) (any_of p t))

pub any_assign : (p q : Key → Bool) (a : Action) (t : Table) → any_of p (assign_if q a t) ≡ any_of p t
any_assign p q a [] = refl
any_assign p q a (e ∷ t) = ap (λ b. p e.key || b) (any_assign p q a t)

-- keys that pass the first test don't pass the second: to remove by the second changes nothing for the first
pub any_remove : (p q : Key → Bool) → ((k : Key) → p k ≡ true → q k ≡ true → ⊥) → (t : Table) → any_of p (remove_if q t) ≡ any_of p t
any_remove p q h [] = refl
any_remove p q h (e ∷ t) = go (q e.key) refl (p e.key) refl (any_remove p q h t)
  where
    go : (c : Bool) → q e.key ≡ c → (d : Bool) → p e.key ≡ d → any_of p (remove_if q t) ≡ any_of p t
        → any_of p (cond c (remove_if q t) (e ∷ remove_if q t)) ≡ d || any_of p t
    go true u true v ih = absurd (h e.key v u)
    go true u false v ih = ih
    go false u d v ih = rw (v, ih) refl

-- no entry passes the test: nothing is found at a key that does
pub none_passes : (p : Key → Bool) (t : Table) → any_of p t ≡ false → (k : Key) → p k ≡ true → get k t ≡ None
none_passes p [] h k e = refl
none_passes p (d ∷ t) h k e = go (p d.key) refl (same_key k d.key) refl h (λ g. none_passes p t g k e)
  where
    go : (b : Bool) → p d.key ≡ b → (c : Bool) → same_key k d.key ≡ c → (b || any_of p t) ≡ false → (any_of p t ≡ false → get k t ≡ None)
        → cond c (Some d.action) (get k t) ≡ None
    go true u c v g ih = absurd (true≢false g)
    go false u true v g ih = absurd (true≢false (sym e ∙ ap p (same_eq k d.key v) ∙ u))
    go false u false v g ih = ih g

-- what is found at the keys determines the table
pub before_none : (k : Key) (t : Table) → Before k t → get k t ≡ None
before_none k [] b = refl
before_none k (e ∷ t) b = rw (less_differ k e.key b.0) (before_none k t b.1)

pub none_some : {a : Action} → None ≡ Some a → ⊥
none_some {a} e = none-some a e

get_head : (e : Entry) (t : Table) → get e.key (e ∷ t) ≡ Some e.action
get_head e t = rw (same_self e.key) refl

pub table_ext : (t u : Table) → Sorted t → Sorted u → ((k : Key) → get k t ≡ get k u) → t ≡ u
table_ext [] [] s r h = refl
table_ext [] (e ∷ u) s r h = absurd (none_some (h e.key ∙ get_head e u))
table_ext (d ∷ t) [] s r h = absurd (none_some (sym (h d.key) ∙ get_head d t))
table_ext (d ∷ t) (e ∷ u) s r h = go (key_order d.key e.key) refl (table_ext t u s.1 r.1)
  where
    go : (o : Ordering) → key_order d.key e.key ≡ o → (((k : Key) → get k t ≡ get k u) → t ≡ u) → ◌≡◌ {A = Table} (d ∷ t) (e ∷ u)
    go Ordering.Less q ih = absurd (none_some (sym (before_none d.key (e ∷ u) (q, before_chain d.key e.key u q r.0)) ∙ sym (h d.key) ∙ get_head d t))
    go Ordering.Greater q ih =
        let l = greater_less d.key e.key q in
        absurd (none_some (sym (before_none e.key (d ∷ t) (l, before_chain e.key d.key t l s.0)) ∙ h e.key ∙ get_head e u))
    go Ordering.Equal q ih = ap₂ {C = Table} ◌∷◌ heads (ih tails)
      where
        keys : d.key ≡ e.key
        keys = key_order_lem.same d.key e.key q

        actions : d.action ≡ e.action
        actions =
            let f : get d.key (e ∷ u) ≡ Some e.action = ap (λ (k : Key). get k (e ∷ u)) keys ∙ get_head e u in
            same_Some d.action e.action (sym (get_head d t) ∙ h d.key ∙ f)

        heads : d ≡ e
        heads = λ i. entry (keys i) (actions i)

        tails : (k : Key) → get k t ≡ get k u
        tails k = at (same_key k d.key) refl
          where
            at : (b : Bool) → same_key k d.key ≡ b → get k t ≡ get k u
            at true v =
                let w = same_eq k d.key v in
                let f : get k t ≡ None = rw w (before_none d.key t s.0) in
                let g : get k u ≡ None = rw (w ∙ keys) (before_none e.key u r.0) in
                f ∙ sym g
            at false v =
                let w : same_key k e.key ≡ false = ap (same_key k) (sym keys) ∙ v in
                (rw (v, w) at (h k))

-- ---- membership: an entry is in a table in order just if its key has its action there
pub get_mem : (k : Key) (a : Action) (t : Table) → get k t ≡ Some a → Memᴰ (entry k a) t
get_mem k a [] h = absurd (none_some h)
get_mem k a (e ∷ t) h = go (same_key k e.key) refl h (get_mem k a t)
  where
    go : (b : Bool) → same_key k e.key ≡ b → cond b (Some e.action) (get k t) ≡ Some a → (get k t ≡ Some a → Memᴰ (entry k a) t) → Memᴰ (entry k a) (e ∷ t)
    go true u h ih = let q = same_eq k e.key u in let r = same_Some e.action a h in Memᴰ.head (λ i. entry (q i) (sym r i))
    go false u h ih = Memᴰ.tail (ih h)

pub mem_get : (e : Entry) (t : Table) → Sorted t → Memᴰ e t → get e.key t ≡ Some e.action
mem_get e [] s m = absurd (Memᴰ.not-nil m)
mem_get e (d ∷ t) s m = ⊎_elim here (λ n. there (mem_get e t s.1 n)) (Memᴰ.cases_cons m)
  where
    here : e ≡ d → get e.key (d ∷ t) ≡ Some e.action
    here q = rw q (rw (same_self d.key) refl)

    there : get e.key t ≡ Some e.action → get e.key (d ∷ t) ≡ Some e.action
    there h = split (same_key e.key d.key)
        (λ u. absurd (none_some (sym (before_none d.key t s.0) ∙ (rw (same_eq e.key d.key u) at h))))
        (λ u. rw u h)

-- two tables in order with the same entries are equal
pub same_entries : (t u : Table) → Sorted t → Sorted u → ((e : Entry) → Memᴰ e t → Memᴰ e u) → ((e : Entry) → Memᴰ e u → Memᴰ e t) → t ≡ u
same_entries t u s r f g = table_ext t u s r (λ k. at k (get k t) refl (get k u) refl)
  where
    at : (k : Key) (x : Option Action) → get k t ≡ x → (y : Option Action) → get k u ≡ y → get k t ≡ get k u
    at k None p None q = p ∙ sym q
    at k None p (Some b) q = absurd (none_some (sym p ∙ mem_get (entry k b) t s (g (entry k b) (get_mem k b u q))))
    at k (Some a) p y q = p ∙ sym (mem_get (entry k a) u r (f (entry k a) (get_mem k a t p)))

-- at most one entry has a key
pub one_per_key : (t : Table) → Sorted t → (d e : Entry) → Memᴰ d t → Memᴰ e t → d.key ≡ e.key → d ≡ e
one_per_key t s d e m n q =
    let r = same_Some d.action e.action (sym (mem_get d t s m) ∙ ap (λ k. get k t) q ∙ mem_get e t s n) in
    λ i. entry (q i) (r i)
