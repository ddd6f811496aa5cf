-- What each event leaves and answers is what document 01's words say: for an event and a table in range, which entries stand in the
-- table afterwards and which answer is given. Assumes nothing.
use mathlib.Core.Path.{◌≡◌, refl, sym, ◌∙◌, ap, subst}
use mathlib.Core.Logic.{◌↔◌, ◌⊎◌, inl, inr, ⊎_elim}
use mathlib.Core.Bool.{Bool, true, false, not, cond, or-true, true≢false, false≢true}
use Rattle.std.specs.Prelude.{Some as some}
use Rattle.std.proofs.lemmas.Option.{same_Some}
use mathlib.Core.List.{List, [], ◌∷◌, Memᴰ}
use Prim.Native.Nat.{ℕ, suc, ◌≤◌}
use native.Mathlib.Omega.{arith}
use lib.Dec.{eqb, ltb}
use lib.ListN.{length}
use borrow.Author.Tests.{eqb-true, eqb-false, eq-eqb, ltb-true, ltb-false, not-false}
use Rattle.basics.proofs.Booleans.{split, and_left, and_right, and_intro, or_cases}
use Rattle.flow.proofs.Matches.{overlaps_iff, within_iff}
use Rattle.flow.proofs.Entries.{same_eq, same_self, differ_of}
use Rattle.flow.specs.Matches.{overlaps, MatchInRange}
use Rattle.flow.specs.Entries.{same_key, KeyInRange, EntryInRange}
use Rattle.flow_table.specs.Types.{Match, Packet, Action, Key, Entry, Answer, Effect}
use Rattle.flow_table.specs.FlowTable.{Table, entry, Sorted, TableInRange, get, insert, remove_if, assign_if, any_of, inside, clash, admits, fitting, highest, at_priority, first_at, best, after, answer, EffectInRange}
use Rattle.flow_table.specs.Meanings.{Fits, FitsAt, Clashes, EntryWithin, Some, None, First, Count, Hits, Meets, Checks, Answers, Set, StandsAfter, Different}
use Rattle.flow_table.proofs.TableLaws.{get_insert, get_mem, mem_get, sorted_insert}

-- ---- what stands in a table
-- some entry's key passes the test
any_some : (p : Key → Bool) (t : Table) → any_of p t ≡ true → Some (λ e. p e.key ≡ true) t
any_some p [] h = absurd (false≢true h)
any_some p (e ∷ t) h = or_cases (p e.key) (any_of p t) h
    (λ u. (e, mathlib.Core.List.Memᴰ.head refl, u))
    (λ u. let s = any_some p t u in (s.0, mathlib.Core.List.Memᴰ.tail s.1, s.2))

some_any : (p : Key → Bool) (t : Table) → Some (λ e. p e.key ≡ true) t → any_of p t ≡ true
some_any p [] s = absurd (mathlib.Core.List.Memᴰ.not-nil s.1)
some_any p (d ∷ t) s = ⊎_elim
    (λ q. let h : p d.key ≡ true = ap (λ (x : Entry). p x.key) (sym q) ∙ s.2 in rw h refl)
    (λ m. rw (some_any p t (s.0, m, s.2)) (or-true (p d.key)))
    (mathlib.Core.List.Memᴰ.cases_cons s.1)

-- an entry stays where its key does not pass the test
remove_in : (p : Key → Bool) (t : Table) (e : Entry) → Memᴰ e (remove_if p t) ↔ (Memᴰ e t × (p e.key ≡ false))
remove_in p t e = (forth t, λ h. back t h.0 h.1)
  where
    forth : (t : Table) → Memᴰ e (remove_if p t) → Memᴰ e t × (p e.key ≡ false)
    forth [] m = absurd (mathlib.Core.List.Memᴰ.not-nil m)
    forth (d ∷ t) m = go (p d.key) refl m (forth t)
      where
        go : (b : Bool) → p d.key ≡ b → Memᴰ e (cond b (remove_if p t) (d ∷ remove_if p t)) → (Memᴰ e (remove_if p t) → Memᴰ e t × (p e.key ≡ false)) → Memᴰ e (d ∷ t) × (p e.key ≡ false)
        go true u m ih = let r = ih m in (mathlib.Core.List.Memᴰ.tail r.0, r.1)
        go false u m ih = ⊎_elim
            (λ q. (mathlib.Core.List.Memᴰ.head q, ap (λ (x : Entry). p x.key) q ∙ u))
            (λ n. let r = ih n in (mathlib.Core.List.Memᴰ.tail r.0, r.1))
            (mathlib.Core.List.Memᴰ.cases_cons m)

    back : (t : Table) → Memᴰ e t → p e.key ≡ false → Memᴰ e (remove_if p t)
    back [] m f = absurd (mathlib.Core.List.Memᴰ.not-nil m)
    back (d ∷ t) m f = go (p d.key) refl (λ n. back t n f)
      where
        go : (b : Bool) → p d.key ≡ b → (Memᴰ e t → Memᴰ e (remove_if p t)) → Memᴰ e (cond b (remove_if p t) (d ∷ remove_if p t))
        go true u ih = ⊎_elim (λ q. absurd (true≢false (sym u ∙ ap (λ (x : Entry). p x.key) (sym q) ∙ f))) ih (mathlib.Core.List.Memᴰ.cases_cons m)
        go false u ih = ⊎_elim (λ q. mathlib.Core.List.Memᴰ.head q) (λ n. mathlib.Core.List.Memᴰ.tail (ih n)) (mathlib.Core.List.Memᴰ.cases_cons m)

-- each entry has the action of the test's answer
assign_in : (p : Key → Bool) (a : Action) (t : Table) (e : Entry) → Memᴰ e (assign_if p a t) ↔ Some (λ d. e ≡ entry d.key (cond (p d.key) a d.action)) t
assign_in p a t e = (forth t, back t)
  where
    forth : (t : Table) → Memᴰ e (assign_if p a t) → Some (λ d. e ≡ entry d.key (cond (p d.key) a d.action)) t
    forth [] m = absurd (mathlib.Core.List.Memᴰ.not-nil m)
    forth (d ∷ t) m = ⊎_elim
        (λ q. (d, mathlib.Core.List.Memᴰ.head refl, q))
        (λ n. let s = forth t n in (s.0, mathlib.Core.List.Memᴰ.tail s.1, s.2))
        (mathlib.Core.List.Memᴰ.cases_cons m)

    back : (t : Table) → Some (λ d. e ≡ entry d.key (cond (p d.key) a d.action)) t → Memᴰ e (assign_if p a t)
    back [] s = absurd (mathlib.Core.List.Memᴰ.not-nil s.1)
    back (d ∷ t) s = ⊎_elim
        (λ q. mathlib.Core.List.Memᴰ.head (s.2 ∙ ap (λ (x : Entry). entry x.key (cond (p x.key) a x.action)) q))
        (λ n. mathlib.Core.List.Memᴰ.tail (back t (s.0, n, s.2)))
        (mathlib.Core.List.Memᴰ.cases_cons s.1)

-- a key's action set
insert_in : (k : Key) (a : Action) (t : Table) → Sorted t → (e : Entry) → Memᴰ e (insert k a t) ↔ Set k a t e
insert_in k a t s e = (forth, back)
  where
    found : get e.key (insert k a t) ≡ cond (same_key e.key k) (some a) (get e.key t)
    found = get_insert e.key k a t

    forth : Memᴰ e (insert k a t) → Set k a t e
    forth m =
        let g = sym found ∙ mem_get e (insert k a t) (sorted_insert k a t s) m in
        split (same_key e.key k)
        (λ u. let q = same_eq e.key k u in let r = same_Some a e.action (rw u at g) in inl (λ i. entry (q i) (sym r i)))
        (λ u. inr (get_mem e.key e.action t (rw u at g), λ q. true≢false (sym (same_self k) ∙ ap (λ j. same_key j k) (sym q) ∙ u)))

    back : Set k a t e → Memᴰ e (insert k a t)
    back (inl q) = get_mem e.key e.action (insert k a t) (found ∙ rw q (rw (same_self k) refl))
    back (inr m) = get_mem e.key e.action (insert k a t) (found ∙ rw (differ_of e.key k m.1) (mem_get e t s m.0))

-- ---- a test that stands for a property of the entries
module _ (P : Entry → Type 0) (p : Key → Bool) (t : Table) (iff : (e : Entry) → Memᴰ e t → (p e.key ≡ true) ↔ P e) where
  some_iff : (any_of p t ≡ true) ↔ Some P t
  some_iff = (
    λ h. let s = any_some p t h in (s.0, s.1, (iff s.0 s.1).0 s.2),
    λ s. some_any p t (s.0, s.1, (iff s.0 s.1).1 s.2),
  )

  none_iff : (any_of p t ≡ false) ↔ None P t
  none_iff = (
    λ h e m w. true≢false (sym (some_iff.1 (e, m, w)) ∙ h),
    λ n. split (any_of p t) (λ h. let s = some_iff.0 h in absurd (n s.0 s.1 s.2)) (λ h. h),
  )

  removed_iff : (e : Entry) → Memᴰ e (remove_if p t) ↔ (Memᴰ e t × (P e → ⊥))
  removed_iff e = (
    λ m. let r = (remove_in p t e).0 m in (r.0, λ w. true≢false (sym ((iff e r.0).1 w) ∙ r.1)),
    λ r. (remove_in p t e).1 (r.0, split (p e.key) (λ h. absurd (r.1 ((iff e r.0).0 h))) (λ h. h)),
  )

  assigned_iff : (a : Action) (e : Entry) → Memᴰ e (assign_if p a t) ↔ (Some (λ d. P d × (e ≡ entry d.key a)) t ⊎ (Memᴰ e t × (P e → ⊥)))
  assigned_iff a e = (λ m. forth ((assign_in p a t e).0 m), λ c. (assign_in p a t e).1 (back c))
    where
      forth : Some (λ d. e ≡ entry d.key (cond (p d.key) a d.action)) t → Some (λ d. P d × (e ≡ entry d.key a)) t ⊎ (Memᴰ e t × (P e → ⊥))
      forth s =
          let d = s.0 in
          split (p d.key)
          (λ h. inl (d, s.1, ((iff d s.1).0 h, s.2 ∙ ap (λ b. entry d.key (cond b a d.action)) h)))
          (λ h.
          let q : e ≡ d = s.2 ∙ ap (λ b. entry d.key (cond b a d.action)) h in
          inr (subst (λ x. Memᴰ x t) (sym q) s.1, λ w. true≢false (sym ((iff d s.1).1 (subst P q w)) ∙ h)))

      back : Some (λ d. P d × (e ≡ entry d.key a)) t ⊎ (Memᴰ e t × (P e → ⊥)) → Some (λ d. e ≡ entry d.key (cond (p d.key) a d.action)) t
      back (inl s) = let d = s.0 in (d, s.1, s.2.1 ∙ ap (λ b. entry d.key (cond b a d.action)) (sym ((iff d s.1).1 s.2.0)))
      back (inr r) = (e, r.0, split (p e.key) (λ h. absurd (r.1 ((iff e r.0).0 h))) (λ h. ap (λ b. entry e.key (cond b a e.action)) (sym h)))

-- ---- the tests that events make, of tables in range
entry_range : (t : Table) → TableInRange t → (e : Entry) → Memᴰ e t → EntryInRange e
entry_range [] r e m = absurd (mathlib.Core.List.Memᴰ.not-nil m)
entry_range (d ∷ t) r e m = ⊎_elim (λ q. subst EntryInRange (sym q) r.0) (λ n. entry_range t r.1 e n) (mathlib.Core.List.Memᴰ.cases_cons m)

module _ (t : Table) (r : TableInRange t) where
  key_iff : (k : Key) (e : Entry) → Memᴰ e t → (same_key k e.key ≡ true) ↔ (e.key ≡ k)
  key_iff k e m = (λ h. sym (same_eq k e.key h), λ q. rw q (same_self k))

  clash_iff : (k : Key) → KeyInRange k → (e : Entry) → Memᴰ e t → (clash k e.key ≡ true) ↔ Clashes k e
  clash_iff k h e m =
      let iff = overlaps_iff k.pattern e.key.pattern h.pattern (entry_range t r e m).key.pattern in
      let b = eqb k.priority e.key.priority in
      let o = overlaps k.pattern e.key.pattern in (
        λ c. (sym (eqb-true k.priority e.key.priority (and_left b o c)), iff.0 (and_right b o c)),
        λ c. and_intro (eq-eqb k.priority e.key.priority (sym c.0)) (iff.1 c.1),
      )

  inside_iff : (m : Match) → MatchInRange m → (e : Entry) → Memᴰ e t → (inside m e.key ≡ true) ↔ EntryWithin m e
  inside_iff m h e n = within_iff e.key.pattern m (entry_range t r e n).key.pattern h

-- ---- what each event leaves
-- of two tables by a test
by_test : {S N X Y : Type 0} (b : Bool) (t u : Table) (e : Entry) → (b ≡ true) ↔ S → (b ≡ false) ↔ N → Memᴰ e t ↔ X → Memᴰ e u ↔ Y
    → Memᴰ e (cond b t u) ↔ ((S × X) ⊎ (N × Y))
by_test true t u e s n i j = (λ m. inl (s.0 refl, i.0 m), ⊎_elim (λ c. i.1 c.1) (λ c. absurd (true≢false (n.1 c.0))))
by_test false t u e s n i j = (λ m. inr (n.0 refl, j.0 m), ⊎_elim (λ c. absurd (false≢true (s.1 c.0))) (λ c. j.1 c.1))

pub after_iff : (v : Effect) (t : Table) → EffectInRange v → TableInRange t → Sorted t → (e : Entry) → Memᴰ e (after v t) ↔ StandsAfter v t e
unfolding after
after_iff (Effect.Pkt p) t h r s e = (λ m. m, λ m. m)
after_iff (Effect.Add k a) t h r s e = insert_in k a t s e
after_iff (Effect.Addc k a) t h r s e =
    let c = clash_iff t r k h.0 in
    by_test (any_of (clash k) t) t (insert k a t) e (some_iff (Clashes k) (clash k) t c) (none_iff (Clashes k) (clash k) t c) (λ m. m, λ m. m) (insert_in k a t s e)
after_iff (Effect.Modn k a) t h r s e =
    let m = k.pattern in
    let c = inside_iff t r m h.0.pattern in
    by_test (any_of (inside m) t) (assign_if (inside m) a t) (insert k a t) e (some_iff (EntryWithin m) (inside m) t c) (none_iff (EntryWithin m) (inside m) t c)
    (assigned_iff (EntryWithin m) (inside m) t c a e) (insert_in k a t s e)
after_iff (Effect.Dels k) t h r s e = removed_iff (λ d. d.key ≡ k) (same_key k) t (key_iff t r k) e
after_iff (Effect.Deln m) t h r s e = removed_iff (EntryWithin m) (inside m) t (inside_iff t r m h) e
after_iff Effect.Idle t h r s e = (λ m. m, λ m. m)

-- ---- the first entry with a property, and how many have it
first_in : {P : Entry → Type 0} {t : Table} {e : Entry} → First P t e → Memᴰ e t × P e
first_in (First.here h) = (mathlib.Core.List.Memᴰ.head refl, h)
first_in (First.later n f) = let r = first_in f in (mathlib.Core.List.Memᴰ.tail r.0, r.1)

first_one : {P : Entry → Type 0} {t : Table} {d e : Entry} → First P t d → First P t e → d ≡ e
first_one (First.here h) (First.here k) = refl
first_one (First.here h) (First.later n f) = absurd (n h)
first_one (First.later n f) (First.here h) = absurd (n h)
first_one (First.later n f) (First.later m g) = first_one f g

count_one : {P : Entry → Type 0} {t : Table} {m n : ℕ} → Count P t m → Count P t n → m ≡ n
count_one Count.nothing Count.nothing = refl
count_one (Count.one_more h c) (Count.one_more k d) = ap suc (count_one c d)
count_one (Count.one_more h c) (Count.passed n d) = absurd (n h)
count_one (Count.passed n c) (Count.one_more h d) = absurd (n h)
count_one (Count.passed n c) (Count.passed m d) = count_one c d

-- ---- what a packet meets
nothing_first : {e : Entry} {t : Table} → ◌≡◌ {A = Table} [] (e ∷ t) → ⊥
nothing_first {e} {t} q = let z : ◌≡◌ {A = ℕ} 0 1 = cc in omega arith

same_first : {d e : Entry} {t u : Table} → ◌≡◌ {A = Table} (d ∷ t) (e ∷ u) → d ≡ e
same_first {d} {e} {t} {u} q = cc

-- some entry has the highest priority, and none a higher one
highest_has : (d : Entry) (t : Table) → Some (λ e. e.key.priority ≡ highest (d ∷ t)) (d ∷ t)
highest_has d [] = (d, mathlib.Core.List.Memᴰ.head refl, omega arith)
highest_has d (x ∷ t) =
    let s = highest_has x t in
    split (ltb d.key.priority (highest (x ∷ t)))
    (λ u. let l = ltb-true d.key.priority (highest (x ∷ t)) u in (s.0, mathlib.Core.List.Memᴰ.tail s.1, omega (arith, s.2)))
    (λ u. let l = ltb-false d.key.priority (highest (x ∷ t)) u in (d, mathlib.Core.List.Memᴰ.head refl, omega arith))

highest_most : (t : Table) (e : Entry) → Memᴰ e t → e.key.priority ≤ highest t
highest_most [] e m = absurd (mathlib.Core.List.Memᴰ.not-nil m)
highest_most (d ∷ t) e m = ⊎_elim
    (λ q. let h : e.key.priority ≡ d.key.priority = ap (λ (x : Entry). x.key.priority) q in omega arith)
    (λ n. let h = highest_most t e n in omega arith)
    (mathlib.Core.List.Memᴰ.cases_cons m)

module _ (p : Packet) where
  -- the entries that fit at n, tested
  at : ℕ → Table → Table
  at n t = at_priority n (fitting p t)

  fitting_in : (t : Table) (e : Entry) → Memᴰ e (fitting p t) ↔ (Memᴰ e t × Fits p e)
  fitting_in t e = (
    λ m. let r = (remove_in (λ k. not (admits p k)) t e).0 m in (r.0, not-false (admits p e.key) r.1),
    λ r. (remove_in (λ k. not (admits p k)) t e).1 (r.0, ap not r.1),
  )

  counted : (n : ℕ) (t : Table) → Count (FitsAt p n) t (length (at n t))
  unfolding at
  counted n [] = Count.nothing
  counted n (e ∷ t) = go (admits p e.key) refl (eqb e.key.priority n) refl (counted n t)
    where
      go : (b : Bool) → admits p e.key ≡ b → (c : Bool) → eqb e.key.priority n ≡ c → Count (FitsAt p n) t (length (at_priority n (fitting p t)))
          → Count (FitsAt p n) (e ∷ t) (length (at_priority n (cond (not b) (fitting p t) (e ∷ fitting p t))))
      go true u true v ih = rw v (Count.one_more (u, eqb-true e.key.priority n v) ih)
      go true u false v ih = rw v (Count.passed (λ h. eqb-false e.key.priority n v h.1) ih)
      go false u c v ih = Count.passed (λ h. true≢false (sym h.0 ∙ u)) ih

  firsts : (n : ℕ) (t : Table) (e : Entry) (u : Table) → at n t ≡ e ∷ u → First (FitsAt p n) t e
  unfolding at
  firsts n [] e u q = absurd (nothing_first q)
  firsts n (d ∷ t) e u q = go (admits p d.key) refl (eqb d.key.priority n) refl (firsts n t e u) q
    where
      go : (b : Bool) → admits p d.key ≡ b → (c : Bool) → eqb d.key.priority n ≡ c → (at_priority n (fitting p t) ≡ e ∷ u → First (FitsAt p n) t e)
          → at_priority n (cond (not b) (fitting p t) (d ∷ fitting p t)) ≡ e ∷ u → First (FitsAt p n) (d ∷ t) e
      go true x true y ih k = subst (λ f. First (FitsAt p n) (d ∷ t) f) (same_first (rw y at k)) (First.here (x, eqb-true d.key.priority n y))
      go true x false y ih k = First.later (λ h. eqb-false d.key.priority n y h.1) (ih (rw y at k))
      go false x c y ih k = First.later (λ h. true≢false (sym h.0 ∙ x)) (ih k)

  packet_meets : (t : Table) → Meets p t (best (fitting p t))
  unfolding best at
  packet_meets t = go (fitting p t) refl (at (highest (fitting p t)) t) refl
    where
      go : (f : Table) → fitting p t ≡ f → (u : Table) → at_priority (highest (fitting p t)) (fitting p t) ≡ u → Meets p t (first_at (highest (fitting p t)) u)
      go [] q [] k = λ e m h. mathlib.Core.List.Memᴰ.not-nil (subst (λ (f : Table). Memᴰ e f) q ((fitting_in t e).1 (m, h)))
      go (d ∷ f) q [] k =
          let s = highest_has d f in
          let n : s.0.key.priority ≡ highest (fitting p t) = s.2 ∙ ap highest (sym q) in
          let m : Memᴰ s.0 (fitting p t) = subst (λ (x : Table). Memᴰ s.0 x) (sym q) s.1 in
          absurd (mathlib.Core.List.Memᴰ.not-nil (subst (λ (x : Table). Memᴰ s.0 x) k ((remove_in (λ j. not (eqb j.priority (highest (fitting p t)))) (fitting p t) s.0).1
          (m, ap not (eq-eqb s.0.key.priority (highest (fitting p t)) n)))))
      go f q (e ∷ u) k = record {
        highest = λ d m h. highest_most (fitting p t) d ((fitting_in t d).1 (m, h));
        many = subst (λ (x : Table). Count (FitsAt p (highest (fitting p t))) t (length x)) k (counted (highest (fitting p t)) t);
        first = e;
        is_first = firsts (highest (fitting p t)) t e u k;
        its_action = refl;
      }

  -- there is no other answer
  one_hit : (t : Table) {m n c d : ℕ} {a b : Action} → Hits p t m c a → Hits p t n d b → Answer.Hit m c a ≡ Answer.Hit n d b
  one_hit t {m} {n} {c} {d} {a} {b} g h =
      let x = first_in g.is_first in
      let y = first_in h.is_first in
      let q : m ≡ n = omega (arith, h.highest g.first x.0 x.1.0, x.1.1, g.highest h.first y.0 y.1.0, y.1.1) in
      let k : c ≡ d = count_one (subst (λ i. Count (FitsAt p i) t c) q g.many) h.many in
      let f : g.first ≡ h.first = first_one (subst (λ i. First (FitsAt p i) t g.first) q g.is_first) h.is_first in
      let r : a ≡ b = sym g.its_action ∙ ap (λ (e : Entry). e.action) f ∙ h.its_action in
      λ i. Answer.Hit (q i) (k i) (r i)

  one_meeting : (t : Table) (r s : Answer) → Meets p t r → Meets p t s → r ≡ s
  one_meeting t Answer.Silent s g h = absurd g
  one_meeting t (Answer.Done b) s g h = absurd g
  one_meeting t Answer.Miss Answer.Silent g h = absurd h
  one_meeting t Answer.Miss Answer.Miss g h = refl
  one_meeting t Answer.Miss (Answer.Hit n c a) g h = let x = first_in h.is_first in absurd (g h.first x.0 x.1.0)
  one_meeting t Answer.Miss (Answer.Done b) g h = absurd h
  one_meeting t (Answer.Hit n c a) Answer.Silent g h = absurd h
  one_meeting t (Answer.Hit n c a) Answer.Miss g h = let x = first_in g.is_first in absurd (h g.first x.0 x.1.0)
  one_meeting t (Answer.Hit n c a) (Answer.Hit m d b) g h = one_hit t g h
  one_meeting t (Answer.Hit n c a) (Answer.Done b) g h = absurd h

  -- a packet's answer is a miss exactly if no entry fits, and else the highest priority, how many and the first one's action
  pub meets_iff : (t : Table) (r : Answer) → (best (fitting p t) ≡ r) ↔ Meets p t r
  meets_iff t r = (λ q. subst (Meets p t) q (packet_meets t), λ g. one_meeting t (best (fitting p t)) r (packet_meets t) g)

-- ---- what a checked add answers
module _ (k : Key) (t : Table) (h : KeyInRange k) (r : TableInRange t) where
  abbrev said : Answer
  said = Answer.Done (not (any_of (clash k) t))

  clashing : (any_of (clash k) t ≡ true) ↔ Some (Clashes k) t
  clashing = some_iff (Clashes k) (clash k) t (clash_iff t r k h)

  calm : (any_of (clash k) t ≡ false) ↔ None (Clashes k) t
  calm = none_iff (Clashes k) (clash k) t (clash_iff t r k h)

  checks_iff : (s : Answer) → (said ≡ s) ↔ Checks k t s
  checks_iff s = (λ q. subst (Checks k t) q here, back s)
    where
      here : Checks k t said
      here = split (any_of (clash k) t) (λ e. rw e (clashing.0 e)) (λ e. rw e (calm.0 e))

      back : (s : Answer) → Checks k t s → said ≡ s
      back Answer.Silent c = absurd c
      back Answer.Miss c = absurd c
      back (Answer.Hit n m a) c = absurd c
      back (Answer.Done true) c = rw (calm.1 c) refl
      back (Answer.Done false) c = rw (clashing.1 c) refl

-- ---- what each event answers
pub answer_iff : (v : Effect) (t : Table) → EffectInRange v → TableInRange t → (s : Answer) → (answer v t ≡ s) ↔ Answers v t s
unfolding answer
answer_iff (Effect.Pkt p) t h r s = meets_iff p t s
answer_iff (Effect.Add k a) t h r s = (sym, sym)
answer_iff (Effect.Addc k a) t h r s = checks_iff k t h.0 r s
answer_iff (Effect.Modn k a) t h r s = (sym, sym)
answer_iff (Effect.Dels k) t h r s = (sym, sym)
answer_iff (Effect.Deln m) t h r s = (sym, sym)
answer_iff Effect.Idle t h r s = (sym, sym)

-- ---- every list of entries with pairwise different keys is a table: in order, with exactly these entries
pub table_of_lem : (es : List Entry) → Different es → (t : Table) × Sorted t × ((e : Entry) → Memᴰ e t ↔ Memᴰ e es)
table_of_lem [] d = ([], tt, λ e. (λ m. m, λ m. m))
table_of_lem (n ∷ es) d =
    let r = table_of_lem es d.1 in
    let t = r.0 in
    let i = insert_in n.key n.action t r.1 in (
      insert n.key n.action t,
      sorted_insert n.key n.action t r.1,
      λ e. (
        λ m. ⊎_elim (λ q. mathlib.Core.List.Memᴰ.head q) (λ o. mathlib.Core.List.Memᴰ.tail ((r.2 e).0 o.0)) ((i e).0 m),
        λ m. (i e).1 (⊎_elim (λ q. inl q) (λ o. inr ((r.2 e).1 o, d.0 e o)) (mathlib.Core.List.Memᴰ.cases_cons m)),
      ),
    )
