-- The test is exact: where it says no, the witness tells the two orders apart. Assumes nothing.
use mathlib.Core.Path.{◌≡◌, refl, sym, ◌∙◌, ap}
use mathlib.Core.Bool.{Bool, true, false, ◌&&◌, ◌||◌, not, cond, true≢false}
use Rattle.std.specs.Prelude.{Option, None, Some}
use Rattle.std.proofs.lemmas.Option.{same_Some}
use mathlib.Core.List.{[], ◌∷◌}
use Prim.Native.Nat.{ℕ, max}
use native.Mathlib.Omega.{arith}
use lib.Dec.{eqb}
use borrow.Author.Tests.{eq-eqb, not-false}
use Rattle.flow.specs.Matches.{fits, overlaps}
use Rattle.flow.specs.Inner.{meet}
use Rattle.flow.specs.Entries.{same_key, same_action}
use Rattle.basics.proofs.Booleans.{split, and_intro, and_cases, or_left, or_right, and-true}
use Rattle.flow.proofs.Field.{within_self, meet_left, meet_right, overlap_sym, within_overlap}
use Rattle.flow.proofs.Matches.{match_field}
use Rattle.flow.proofs.Entries.{same_eq, same_self, same_sym, differ_of, action_self}
use Rattle.flow_table.specs.FlowTable.{Table, entry, get, insert, remove_if, assign_if, any_of, fitting, best, after, answer, inside, clash, admits}
use Rattle.flow_table.proofs.TableLaws.{get_insert, get_assign, any_assign, none_some}
use Rattle.flow_table.proofs.Effects.{addc_yes, modn_yes, modn_no}
use Rattle.commuting.specs.Types.{Match, Packet, Action, Key, Entry, Answer, Effect}
use Rattle.commuting.specs.Commuting.{Agree, add_add, add_dels, add_deln, add_modn, addc_other, addc_modn, modn_dels, modn_modn, commutes, at}
use Rattle.commuting.specs.Inner.{one, witness}
use Rattle.commuting.proofs.Sound.{inside_self, clash_self, agree_sym, clashes}

-- a false test that follows from an equation
action_differ : (a b : Action) → same_action a b ≡ false → a ≡ b → ⊥
action_differ a b e q = true≢false (sym (action_self b) ∙ ap (λ c. same_action c b) (sym q) ∙ e)

-- answers told apart
Hit-Miss : {m n : ℕ} {a : Action} → Answer.Hit m n a ≡ Answer.Miss → ⊥
Hit-Miss {m} {n} {a} e = let z : ◌≡◌ {A = ℕ} 0 1 = cc in omega arith

yes_no : Answer.Done true ≡ Answer.Done false → ⊥
yes_no e = let z : true ≡ false = cc in true≢false z

best_one : (e : Entry) → best (e ∷ []) ≡ Answer.Hit (max e.key.priority 0) 1 e.action
unfolding best
best_one e = let q : eqb e.key.priority (max e.key.priority 0) ≡ true = eq-eqb e.key.priority (max e.key.priority 0) (omega arith) in rw q refl

-- a packet that fits the only entry meets it
pkt_one : (p : Packet) (e : Entry) → admits p e.key ≡ true → answer (Effect.Pkt p) (e ∷ []) ≡ answer (Effect.Pkt p) [] → ⊥
unfolding answer best
pkt_one p e h g =
    let f : best (fitting p (e ∷ [])) ≡ best (e ∷ []) = rw h refl in
    Hit-Miss (sym (best_one e) ∙ sym f ∙ g)

-- a checked add meets an entry that clashes
addc_one : (j : Key) (a : Action) (e : Entry) → clash j e.key ≡ true → answer (Effect.Addc j a) (e ∷ []) ≡ answer (Effect.Addc j a) [] → ⊥
unfolding answer
addc_one j a e h g = yes_no (sym g ∙ rw h refl)

-- what two tables hold at a key
tell : {t u : Table} (k : Key) → t ≡ u → {x y : Option Action} → get k t ≡ x → get k u ≡ y → (x ≡ y → ⊥) → ⊥
tell k e p q h = h (sym p ∙ ap (get k) e ∙ q)

some_differ : (a b : Action) → same_action a b ≡ false → Some a ≡ Some b → ⊥
some_differ a b h e = action_differ a b h (same_Some a b e)

get_here : (k : Key) (a : Action) (t : Table) → get k (insert k a t) ≡ Some a
get_here k a t = get_insert k k a t ∙ rw (same_self k) refl

get_there : (k j : Key) (a : Action) (t : Table) → same_key k j ≡ false → get k (insert j a t) ≡ get k t
get_there k j a t h = get_insert k j a t ∙ rw h refl

-- a deln or dels of the only entry leaves nothing
gone : (p : Key → Bool) (k : Key) (a : Action) → p k ≡ true → remove_if p (entry k a ∷ []) ≡ []
gone p k a h = rw h refl

module _ (j : Key) (a : Action) (k : Key) (b : Action) where
  add_add_tell : add_add j a k b ≡ false → Agree (Effect.Add j a) (Effect.Add k b) [] → ⊥
  unfolding after
  add_add_tell h g =
      let e = same_eq j k (not-false (same_key j k) (or_left (not (same_key j k)) (same_action a b) h)) in
      let f : get k (insert j a (insert k b [])) ≡ Some a = rw (← e) (get_here j a (insert j b [])) in
      tell k g.tables (get_here k b (insert j a [])) f (λ q. some_differ a b (or_right (not (same_key j k)) (same_action a b) h) (sym q))

  -- only the add's key, against both
  two_tell : same_key j k ≡ false → assign_if (inside k.pattern) b (insert j a []) ≡ insert j a (insert k b []) → ⊥
  two_tell h e =
      let n : same_key k j ≡ false = sym (same_sym j k) ∙ h in
      let l : get k (assign_if (inside k.pattern) b (insert j a [])) ≡ None = get_assign k (inside k.pattern) b (insert j a []) ∙ rw (inside_self k, get_there k j a [] n) refl in
      let r : get k (insert j a (insert k b [])) ≡ Some b = get_there k j a (insert k b []) n ∙ get_here k b [] in
      tell k e l r none_some

  add_modn_tell : add_modn j a k b ≡ false → Agree (Effect.Add j a) (Effect.Modn k b) [] → ⊥
  unfolding after
  add_modn_tell h g =
      let w = not-false (inside k.pattern j) (or_left (not (inside k.pattern j)) (same_key j k && same_action a b) h) in
      let e : assign_if (inside k.pattern) b (insert j a []) ≡ insert j a (insert k b []) = sym (modn_yes k b (insert j a []) (rw w refl)) ∙ g.tables in
      let l : get j (assign_if (inside k.pattern) b (insert j a [])) ≡ Some b = get_assign j (inside k.pattern) b (insert j a []) ∙ rw (w, get_here j a []) refl in
      and_cases (same_key j k) (same_action a b) (or_right (not (inside k.pattern j)) (same_key j k && same_action a b) h)
      (λ d. two_tell d e)
      (λ d. tell j e l (get_here j a (insert k b [])) (λ q. some_differ a b d (sym q)))

  addc_modn_tell : addc_modn j k ≡ false → Agree (Effect.Addc j a) (Effect.Modn k b) [] → ⊥
  unfolding after
  addc_modn_tell h g = split (clash j k) (λ c. addc_one j a (entry k b) c g.first) calm
    where
      calm : clash j k ≡ false → ⊥
      calm c =
          let w : inside k.pattern j ≡ true = and_cases (not (inside k.pattern j)) (addc_other j k) h (not-false (inside k.pattern j)) (λ u. absurd (true≢false (sym (clashes j k u) ∙ c))) in
          let d : same_key j k ≡ false = differ_of j k (λ q. true≢false (sym (clash_self j) ∙ ap (clash j) q ∙ c)) in
          two_tell d (sym (modn_yes k b (insert j a []) (rw w refl)) ∙ g.tables ∙ addc_yes j a (insert k b []) (rw c refl))

  -- the later of two modifies finds the entry of the earlier
  found_tell : inside k.pattern j ≡ true → same_key k j ≡ false → after (Effect.Modn k b) (insert j a []) ≡ after (Effect.Modn j a) (insert k b []) → ⊥
  found_tell w n e =
      let l : get k (after (Effect.Modn k b) (insert j a [])) ≡ None
      = ap (get k) (modn_yes k b (insert j a []) (rw w refl)) ∙ get_assign k (inside k.pattern) b (insert j a []) ∙ rw (inside_self k, get_there k j a [] n) refl in
      split (any_of (inside j.pattern) (insert k b []))
      (λ u. tell k e l (ap (get k) (modn_yes j a (insert k b []) u) ∙ get_assign k (inside j.pattern) a (insert k b [])
      ∙ rw (or-true (inside j.pattern k) u, get_here k b []) refl) (none_some {a = a}))
      (λ u. tell k e l (ap (get k) (modn_no j a (insert k b []) u) ∙ get_there k j a (insert k b []) n ∙ get_here k b []) none_some)
    where
      or-true : (x : Bool) → (x || false) ≡ true → x ≡ true
      or-true true u = refl
      or-true false u = u

  modn_modn_tell : modn_modn j a k b ≡ false → Agree (Effect.Modn j a) (Effect.Modn k b) (cond (same_action a b) [] (one (at (0) (meet j.pattern k.pattern)))) → ⊥
  unfolding after
  modn_modn_tell h g = split (same_action a b) (λ c. equal (rw c at h) (rw c at g)) (λ c. unequal c (rw c at g))
    where
      equal : (not (overlaps j.pattern k.pattern) || ((not (inside k.pattern j) && not (inside j.pattern k)) || (same_key j k && true))) ≡ false
          → Agree (Effect.Modn j a) (Effect.Modn k b) [] → ⊥
      equal e f =
          let r = or_right (not (overlaps j.pattern k.pattern)) ((not (inside k.pattern j) && not (inside j.pattern k)) || (same_key j k && true)) e in
          let n = sym (and-true (same_key j k)) ∙ or_right (not (inside k.pattern j) && not (inside j.pattern k)) (same_key j k && true) r in
          and_cases (not (inside k.pattern j)) (not (inside j.pattern k)) (or_left (not (inside k.pattern j) && not (inside j.pattern k)) (same_key j k && true) r)
          (λ v. found_tell (not-false (inside k.pattern j) v) (sym (same_sym j k) ∙ n) f.tables)
          (λ v. Rattle.commuting.proofs.Exact.found_tell k b j a (not-false (inside j.pattern k) v) n (sym f.tables))

      o : overlaps j.pattern k.pattern ≡ true
      o = not-false (overlaps j.pattern k.pattern) (or_left (not (overlaps j.pattern k.pattern))
          ((same_action a b && (not (inside k.pattern j) && not (inside j.pattern k))) || (same_key j k && same_action a b)) h)

      unequal : same_action a b ≡ false → Agree (Effect.Modn j a) (Effect.Modn k b) (one (at (0) (meet j.pattern k.pattern))) → ⊥
      unequal c f =
          let q : Key = at (0) (meet j.pattern k.pattern) in
          let u : inside j.pattern q ≡ true = meet_left match_field j.pattern k.pattern o in
          let v : inside k.pattern q ≡ true = meet_right match_field j.pattern k.pattern o in
          let l : after (Effect.Modn k b) (after (Effect.Modn j a) (one q)) ≡ assign_if (inside k.pattern) b (assign_if (inside j.pattern) a (one q))
          = ap (after (Effect.Modn k b)) (modn_yes j a (one q) (rw u refl)) ∙ modn_yes k b (assign_if (inside j.pattern) a (one q)) (any_assign (inside k.pattern) (inside j.pattern) a (one q) ∙ rw v refl) in
          let r : after (Effect.Modn j a) (after (Effect.Modn k b) (one q)) ≡ assign_if (inside j.pattern) a (assign_if (inside k.pattern) b (one q))
          = ap (after (Effect.Modn j a)) (modn_yes k b (one q) (rw v refl)) ∙ modn_yes j a (assign_if (inside k.pattern) b (one q)) (any_assign (inside j.pattern) (inside k.pattern) b (one q) ∙ rw u refl) in
          let x : get q (assign_if (inside k.pattern) b (assign_if (inside j.pattern) a (one q))) ≡ Some b = rw (v, same_self q) refl in
          let y : get q (assign_if (inside j.pattern) a (assign_if (inside k.pattern) b (one q))) ≡ Some a = rw (u, same_self q) refl in
          tell q (sym l ∙ f.tables ∙ r) x y (λ e. some_differ a b c (sym e))

module _ (j : Key) (a : Action) where
  add_dels_tell : (k : Key) → add_dels j k ≡ false → Agree (Effect.Add j a) (Effect.Dels k) [] → ⊥
  unfolding after
  add_dels_tell k h g = tell j (sym (gone (same_key k) j a (sym (same_sym j k) ∙ not-false (same_key j k) h)) ∙ g.tables) refl (get_here j a []) none_some

  add_deln_tell : (m : Match) → add_deln j m ≡ false → Agree (Effect.Add j a) (Effect.Deln m) [] → ⊥
  unfolding after
  add_deln_tell m h g = tell j (sym (gone (inside m) j a (not-false (inside m j) h)) ∙ g.tables) refl (get_here j a []) none_some

  addc_dels_tell : (k : Key) → clash j k ≡ true → Agree (Effect.Addc j a) (Effect.Dels k) (one k) → ⊥
  unfolding after
  addc_dels_tell k h g = addc_one j a (entry k Action.Drop) h (sym g.first ∙ ap (answer (Effect.Addc j a)) (gone (same_key k) k Action.Drop (same_self k)))

  addc_deln_tell : (m : Match) → overlaps j.pattern m ≡ true → Agree (Effect.Addc j a) (Effect.Deln m) (one (at j.priority (meet j.pattern m))) → ⊥
  unfolding after
  addc_deln_tell m h g =
      let q : Key = at j.priority (meet j.pattern m) in
      let c : clash j q ≡ true = and_intro (eq-eqb j.priority j.priority refl) (overlap_sym match_field q.pattern j.pattern (within_overlap match_field q.pattern j.pattern (meet_left match_field j.pattern m h))) in
      addc_one j a (entry q Action.Drop) c (sym g.first ∙ ap (answer (Effect.Addc j a)) (gone (inside m) q Action.Drop (meet_right match_field j.pattern m h)))

  -- a modn beside a removal of the only entry within it
  modn_gone_tell : (p : Key → Bool) (q : Key) → inside j.pattern q ≡ true → p q ≡ true → remove_if p (after (Effect.Modn j a) (one q)) ≡ after (Effect.Modn j a) (remove_if p (one q)) → ⊥
  modn_gone_tell p q u v e =
      let l : remove_if p (after (Effect.Modn j a) (one q)) ≡ [] = ap (remove_if p) (modn_yes j a (one q) (rw u refl)) ∙ rw v refl in
      let r : after (Effect.Modn j a) (remove_if p (one q)) ≡ insert j a [] = ap (after (Effect.Modn j a)) (gone p q Action.Drop v) ∙ modn_no j a [] refl in
      tell j (sym l ∙ e ∙ r) refl (get_here j a []) none_some

  modn_dels_tell : (k : Key) → modn_dels j k ≡ false → Agree (Effect.Modn j a) (Effect.Dels k) (one k) → ⊥
  unfolding after
  modn_dels_tell k h g = modn_gone_tell (same_key k) k (not-false (inside j.pattern k) h) (same_self k) g.tables

  modn_deln_tell : (m : Match) → overlaps j.pattern m ≡ true → Agree (Effect.Modn j a) (Effect.Deln m) (one (at (0) (meet j.pattern m))) → ⊥
  unfolding after
  modn_deln_tell m h g = modn_gone_tell (inside m) (at (0) (meet j.pattern m)) (meet_left match_field j.pattern m h) (meet_right match_field j.pattern m h) g.tables

module _ (p : Packet) where
  pkt_add_tell : (k : Key) (b : Action) → admits p k ≡ true → Agree (Effect.Pkt p) (Effect.Add k b) [] → ⊥
  unfolding after
  pkt_add_tell k b h g = pkt_one p (entry k b) h g.first

  pkt_addc_tell : (k : Key) (b : Action) → admits p k ≡ true → Agree (Effect.Pkt p) (Effect.Addc k b) [] → ⊥
  unfolding after
  pkt_addc_tell k b h g = pkt_one p (entry k b) h g.first

  pkt_modn_tell : (k : Key) (b : Action) → admits p k ≡ true → Agree (Effect.Pkt p) (Effect.Modn k b) [] → ⊥
  unfolding after
  pkt_modn_tell k b h g = pkt_one p (entry k b) h g.first

  pkt_dels_tell : (k : Key) → admits p k ≡ true → Agree (Effect.Pkt p) (Effect.Dels k) (one k) → ⊥
  unfolding after
  pkt_dels_tell k h g = pkt_one p (entry k Action.Drop) h (sym g.first ∙ ap (answer (Effect.Pkt p)) (gone (same_key k) k Action.Drop (same_self k)))

  pkt_deln_tell : (m : Match) → fits m p ≡ true → Agree (Effect.Pkt p) (Effect.Deln m) (one (at (0) (m))) → ⊥
  unfolding after
  pkt_deln_tell m h g = pkt_one p (entry (at (0) (m)) Action.Drop) h
      (sym g.first ∙ ap (answer (Effect.Pkt p)) (gone (inside m) (at (0) (m)) Action.Drop (within_self match_field m)))

addc_add_tell : (j : Key) (a : Action) (k : Key) (b : Action) → clash j k ≡ true → Agree (Effect.Addc j a) (Effect.Add k b) [] → ⊥
unfolding after
addc_add_tell j a k b h g = addc_one j a (entry k b) h g.first

addc_addc_tell : (j : Key) (a : Action) (k : Key) (b : Action) → clash j k ≡ true → Agree (Effect.Addc j a) (Effect.Addc k b) [] → ⊥
unfolding after
addc_addc_tell j a k b h g = addc_one j a (entry k b) h g.first

-- where the test says no, the witness tells the two orders apart
pub commutes_exact : (v w : Effect) → commutes v w ≡ false → Agree v w (witness v w) → ⊥
unfolding commutes witness
commutes_exact Effect.Idle w h g = true≢false h
commutes_exact (Effect.Pkt p) Effect.Idle h g = true≢false h
commutes_exact (Effect.Pkt p) (Effect.Pkt q) h g = true≢false h
commutes_exact (Effect.Pkt p) (Effect.Add k b) h g = pkt_add_tell p k b (not-false (admits p k) h) g
commutes_exact (Effect.Pkt p) (Effect.Addc k b) h g = pkt_addc_tell p k b (not-false (admits p k) h) g
commutes_exact (Effect.Pkt p) (Effect.Modn k b) h g = pkt_modn_tell p k b (not-false (admits p k) h) g
commutes_exact (Effect.Pkt p) (Effect.Dels k) h g = pkt_dels_tell p k (not-false (admits p k) h) g
commutes_exact (Effect.Pkt p) (Effect.Deln m) h g = pkt_deln_tell p m (not-false (fits m p) h) g
commutes_exact (Effect.Add j a) Effect.Idle h g = true≢false h
commutes_exact (Effect.Add j a) (Effect.Pkt p) h g = pkt_add_tell p j a (not-false (admits p j) h) (agree_sym g)
commutes_exact (Effect.Add j a) (Effect.Add k b) h g = add_add_tell j a k b h g
commutes_exact (Effect.Add j a) (Effect.Addc k b) h g = addc_add_tell k b j a (clashes k j h) (agree_sym g)
commutes_exact (Effect.Add j a) (Effect.Modn k b) h g = add_modn_tell j a k b h g
commutes_exact (Effect.Add j a) (Effect.Dels k) h g = add_dels_tell j a k h g
commutes_exact (Effect.Add j a) (Effect.Deln m) h g = add_deln_tell j a m h g
commutes_exact (Effect.Addc j a) Effect.Idle h g = true≢false h
commutes_exact (Effect.Addc j a) (Effect.Pkt p) h g = pkt_addc_tell p j a (not-false (admits p j) h) (agree_sym g)
commutes_exact (Effect.Addc j a) (Effect.Add k b) h g = addc_add_tell j a k b (clashes j k h) g
commutes_exact (Effect.Addc j a) (Effect.Addc k b) h g = addc_addc_tell j a k b (clashes j k h) g
commutes_exact (Effect.Addc j a) (Effect.Modn k b) h g = addc_modn_tell j a k b h g
commutes_exact (Effect.Addc j a) (Effect.Dels k) h g = addc_dels_tell j a k (clashes j k h) g
commutes_exact (Effect.Addc j a) (Effect.Deln m) h g = addc_deln_tell j a m (not-false (overlaps j.pattern m) h) g
commutes_exact (Effect.Modn j a) Effect.Idle h g = true≢false h
commutes_exact (Effect.Modn j a) (Effect.Pkt p) h g = pkt_modn_tell p j a (not-false (admits p j) h) (agree_sym g)
commutes_exact (Effect.Modn j a) (Effect.Add k b) h g = add_modn_tell k b j a h (agree_sym g)
commutes_exact (Effect.Modn j a) (Effect.Addc k b) h g = addc_modn_tell k b j a h (agree_sym g)
commutes_exact (Effect.Modn j a) (Effect.Modn k b) h g = modn_modn_tell j a k b h g
commutes_exact (Effect.Modn j a) (Effect.Dels k) h g = modn_dels_tell j a k h g
commutes_exact (Effect.Modn j a) (Effect.Deln m) h g = modn_deln_tell j a m (not-false (overlaps j.pattern m) h) g
commutes_exact (Effect.Dels j) Effect.Idle h g = true≢false h
commutes_exact (Effect.Dels j) (Effect.Pkt p) h g = pkt_dels_tell p j (not-false (admits p j) h) (agree_sym g)
commutes_exact (Effect.Dels j) (Effect.Add k b) h g = add_dels_tell k b j h (agree_sym g)
commutes_exact (Effect.Dels j) (Effect.Addc k b) h g = addc_dels_tell k b j (clashes k j h) (agree_sym g)
commutes_exact (Effect.Dels j) (Effect.Modn k b) h g = modn_dels_tell k b j h (agree_sym g)
commutes_exact (Effect.Dels j) (Effect.Dels k) h g = true≢false h
commutes_exact (Effect.Dels j) (Effect.Deln m) h g = true≢false h
commutes_exact (Effect.Deln m) Effect.Idle h g = true≢false h
commutes_exact (Effect.Deln m) (Effect.Pkt p) h g = pkt_deln_tell p m (not-false (fits m p) h) (agree_sym g)
commutes_exact (Effect.Deln m) (Effect.Add k b) h g = add_deln_tell k b m h (agree_sym g)
commutes_exact (Effect.Deln m) (Effect.Addc k b) h g = addc_deln_tell k b m (not-false (overlaps k.pattern m) h) (agree_sym g)
commutes_exact (Effect.Deln m) (Effect.Modn k b) h g = modn_deln_tell k b m (not-false (overlaps k.pattern m) h) (agree_sym g)
commutes_exact (Effect.Deln m) (Effect.Dels k) h g = true≢false h
commutes_exact (Effect.Deln m) (Effect.Deln n) h g = true≢false h
