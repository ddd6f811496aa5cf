-- The test is right: where it says yes the two orders agree on every table. Assumes nothing.
use mathlib.Core.Path.{◌≡◌, refl, sym, ◌∙◌, ap}
use mathlib.Core.Bool.{Bool, true, false, ◌&&◌, ◌||◌, not, cond, true≢false}
use Rattle.std.specs.Prelude.{Option, None, Some}
use lib.Dec.{eqb}
use borrow.Author.Tests.{eqb-true, eq-eqb, not-true, not-false}
use Rattle.flow.specs.Matches.{fits, within, overlaps}
use Rattle.flow.specs.Entries.{same_key, same_action}
use Rattle.basics.proofs.Booleans.{split, and_left, and_right, and_intro, and_false_right, or_left, or_right, or_cases, cond_same, cond_swap}
use Rattle.flow.proofs.Field.{within_self, overlap_sym, within_overlap, overlap_up}
use Rattle.flow.proofs.Matches.{match_field}
use Rattle.flow.proofs.Entries.{same_eq, differ, differ_of, action_eq, same_sym}
use Rattle.flow_table.specs.FlowTable.{Table, Sorted, get, insert, remove_if, assign_if, any_of, overwrite, fitting, best, after, answer, inside, clash, admits}
use Rattle.flow_table.proofs.TableLaws.{sorted_insert, sorted_remove, sorted_assign, get_insert, get_remove, get_assign, any_insert, any_assign, any_remove, none_passes, table_ext}
use Rattle.flow_table.proofs.Effects.{addc_no, addc_yes, modn_yes, modn_no, sorted_after}
use Rattle.commuting.specs.Types.{Match, Packet, Action, Key, Answer, Effect}
use Rattle.commuting.specs.Commuting.{Agree, add_add, add_dels, add_deln, add_modn, addc_other, addc_modn, modn_dels, modn_modn, commutes}

-- the three changes of a table, two at a time
insert_insert : (j k : Key) (a b : Action) → same_key j k ≡ false → (t : Table) → Sorted t → insert k b (insert j a t) ≡ insert j a (insert k b t)
insert_insert j k a b h t s = table_ext (insert k b (insert j a t)) (insert j a (insert k b t))
    (sorted_insert k b (insert j a t) (sorted_insert j a t s)) (sorted_insert j a (insert k b t) (sorted_insert k b t s))
    (λ i. simp get_insert (cond_swap (same_key i k) (same_key i j) (Some b) (Some a) (get i t) (λ u v. differ j k h (sym (same_eq i j v) ∙ same_eq i k u))))

insert_remove : (k : Key) (a : Action) (p : Key → Bool) → p k ≡ false → (t : Table) → Sorted t → remove_if p (insert k a t) ≡ insert k a (remove_if p t)
insert_remove k a p h t s = table_ext (remove_if p (insert k a t)) (insert k a (remove_if p t))
    (sorted_remove p (insert k a t) (sorted_insert k a t s)) (sorted_insert k a (remove_if p t) (sorted_remove p t s))
    (λ i. simp (get_insert, get_remove) (cond_swap (p i) (same_key i k) None (Some a) (get i t) (λ u v. true≢false (sym u ∙ ap p (same_eq i k v) ∙ h))))

insert_assign : (k : Key) (a : Action) (p : Key → Bool) (b : Action) → (p k ≡ true → b ≡ a) → (t : Table) → Sorted t → assign_if p b (insert k a t) ≡ insert k a (assign_if p b t)
insert_assign k a p b h t s = table_ext (assign_if p b (insert k a t)) (insert k a (assign_if p b t))
    (sorted_assign p b (insert k a t) (sorted_insert k a t s)) (sorted_insert k a (assign_if p b t) (sorted_assign p b t s))
    (λ i. simp (get_insert, get_assign) (at (p i) (same_key i k) (get i t) (λ u v. h (ap p (sym (same_eq i k v)) ∙ u))))
  where
    at : (x y : Bool) (g : Option Action) → (x ≡ true → y ≡ true → b ≡ a)
        → cond x (overwrite b (cond y (Some a) g)) (cond y (Some a) g) ≡ cond y (Some a) (cond x (overwrite b g) g)
    at true true g f = ap {B = Option Action} Some (f refl refl)
    at true false g f = refl
    at false true g f = refl
    at false false g f = refl

remove_remove : (p q : Key → Bool) (t : Table) → Sorted t → remove_if q (remove_if p t) ≡ remove_if p (remove_if q t)
remove_remove p q t s = table_ext (remove_if q (remove_if p t)) (remove_if p (remove_if q t))
    (sorted_remove q (remove_if p t) (sorted_remove p t s)) (sorted_remove p (remove_if q t) (sorted_remove q t s))
    (λ i. simp get_remove (at (q i) (p i) (get i t)))
  where
    at : (x y : Bool) (g : Option Action) → cond x None (cond y None g) ≡ cond y None (cond x None g)
    at true true g = refl
    at true false g = refl
    at false true g = refl
    at false false g = refl

assign_remove : (p q : Key → Bool) (a : Action) (t : Table) → Sorted t → remove_if q (assign_if p a t) ≡ assign_if p a (remove_if q t)
assign_remove p q a t s = table_ext (remove_if q (assign_if p a t)) (assign_if p a (remove_if q t))
    (sorted_remove q (assign_if p a t) (sorted_assign p a t s)) (sorted_assign p a (remove_if q t) (sorted_remove q t s))
    (λ i. simp (get_remove, get_assign) (at (q i) (p i) (get i t)))
  where
    at : (x y : Bool) (g : Option Action) → cond x None (cond y (overwrite a g) g) ≡ cond y (overwrite a (cond x None g)) (cond x None g)
    at true true g = refl
    at true false g = refl
    at false true g = refl
    at false false g = refl

assign_assign : (p q : Key → Bool) (a b : Action) → ((k : Key) → p k ≡ true → q k ≡ true → a ≡ b) → (t : Table) → Sorted t
    → assign_if q b (assign_if p a t) ≡ assign_if p a (assign_if q b t)
assign_assign p q a b h t s = table_ext (assign_if q b (assign_if p a t)) (assign_if p a (assign_if q b t))
    (sorted_assign q b (assign_if p a t) (sorted_assign p a t s)) (sorted_assign p a (assign_if q b t) (sorted_assign q b t s))
    (λ i. simp get_assign (at (q i) (p i) (get i t) (λ u v. h i v u)))
  where
    at : (x y : Bool) (g : Option Action) → (x ≡ true → y ≡ true → a ≡ b)
        → cond x (overwrite b (cond y (overwrite a g) g)) (cond y (overwrite a g) g) ≡ cond y (overwrite a (cond x (overwrite b g) g)) (cond x (overwrite b g) g)
    at true true None f = refl
    at true true (Some c) f = ap {B = Option Action} Some (sym (f refl refl))
    at true false g f = refl
    at false true g f = refl
    at false false g f = refl

assign_idle : (p : Key → Bool) (a : Action) (t : Table) → Sorted t → any_of p t ≡ false → assign_if p a t ≡ t
assign_idle p a t s h = table_ext (assign_if p a t) t (sorted_assign p a t s) s (λ i. simp get_assign (at (p i) refl))
  where
    at : {i : Key} (x : Bool) → p i ≡ x → cond x (overwrite a (get i t)) (get i t) ≡ get i t
    at {i} true e = rw (none_passes p t h i e) refl
    at {i} false e = refl

insert_twice : (k : Key) (a : Action) (t : Table) → Sorted t → insert k a (insert k a t) ≡ insert k a t
insert_twice k a t s = table_ext (insert k a (insert k a t)) (insert k a t) (sorted_insert k a (insert k a t) (sorted_insert k a t s)) (sorted_insert k a t s)
    (λ i. simp get_insert (cond_same (same_key i k) (Some a) (Some a) (get i t)))

-- laws of keys
pub inside_self : (k : Key) → inside k.pattern k ≡ true
inside_self k = within_self match_field k.pattern

pub clash_self : (k : Key) → clash k k ≡ true
clash_self k = and_intro (eq-eqb k.priority k.priority refl) (within_overlap match_field k.pattern k.pattern (inside_self k))

-- priorities differ or no overlap: no clash, and the reverse
calm : (j k : Key) → addc_other j k ≡ true → clash j k ≡ false
calm j k h =
    let p = eqb j.priority k.priority in
    let o = overlaps j.pattern k.pattern in
    or_cases (not p) (not o) h (λ e. rw (not-true p e)) (λ e. and_false_right p (not-true o e))

pub clashes : (j k : Key) → addc_other j k ≡ false → clash j k ≡ true
clashes j k h =
    let p = eqb j.priority k.priority in
    let o = overlaps j.pattern k.pattern in
    and_intro (not-false p (or_left (not p) (not o) h)) (not-false o (or_right (not p) (not o) h))

clash_sym : (j k : Key) → clash j k ≡ true → clash k j ≡ true
clash_sym j k h =
    let p = eqb j.priority k.priority in
    let o = overlaps j.pattern k.pattern in
    and_intro (eq-eqb k.priority j.priority (sym (eqb-true j.priority k.priority (and_left p o h)))) (overlap_sym match_field j.pattern k.pattern (and_right p o h))

clash_false : (j k : Key) → clash j k ≡ false → clash k j ≡ false
clash_false j k h = split (clash k j) (λ e. absurd (true≢false (sym (clash_sym k j e) ∙ h))) (λ e. e)

-- a test that tells two keys apart
pub apart : (p : Key → Bool) (j k : Key) → p j ≡ false → p k ≡ true → same_key j k ≡ false
apart p j k u v = differ_of j k (λ e. true≢false (sym v ∙ ap p (sym e) ∙ u))

-- nothing overlaps a match and lies within one that doesn't overlap it
pub not_in_both : (m n : Match) → overlaps m n ≡ false → (i : Key) → overlaps m i.pattern ≡ true → inside n i ≡ true → ⊥
not_in_both m n h i u v = true≢false (sym (overlap_up match_field m i.pattern n v u) ∙ h)

pub outside : (m n : Match) → overlaps m n ≡ false → within m n ≡ false
outside m n h = split (within m n) (λ e. absurd (true≢false (sym (within_overlap match_field m n e) ∙ h))) (λ e. e)

overlap_false : (m n : Match) → overlaps m n ≡ false → overlaps n m ≡ false
overlap_false m n h = split (overlaps n m) (λ e. absurd (true≢false (sym (overlap_sym match_field n m e) ∙ h))) (λ e. e)

inside_overlap : (m : Match) (i : Key) → inside m i ≡ true → overlaps m i.pattern ≡ true
inside_overlap m i e = overlap_sym match_field i.pattern m (within_overlap match_field i.pattern m e)

-- agreement
pub agree_sym : {v w : Effect} {t : Table} → Agree v w t → Agree w v t
agree_sym g = record { tables = sym g.tables; first = g.second; second = g.first }

-- a checked add agrees where a plain one does, if the other event leaves its test as it is
addc_agree : (j : Key) (a : Action) (w : Effect) (t : Table) → any_of (clash j) (after w t) ≡ any_of (clash j) t
    → (any_of (clash j) t ≡ false → Agree (Effect.Add j a) w t) → Agree (Effect.Addc j a) w t
unfolding answer after
addc_agree j a w t e g = split (any_of (clash j) t) refused added
  where
    refused : any_of (clash j) t ≡ true → Agree (Effect.Addc j a) w t
    refused u = record {
      tables = ap (after w) (addc_no j a t u) ∙ sym (addc_no j a (after w t) (e ∙ u));
      first = ap (λ b. Answer.Done (not b)) e;
      second = ap (answer w) (addc_no j a t u);
    }

    added : any_of (clash j) t ≡ false → Agree (Effect.Addc j a) w t
    added u = record {
      tables = ap (after w) (addc_yes j a t u) ∙ (g u).tables ∙ sym (addc_yes j a (after w t) (e ∙ u));
      first = ap (λ b. Answer.Done (not b)) e;
      second = ap (answer w) (addc_yes j a t u) ∙ (g u).second;
    }

-- a modn agrees where assigning to all and adding agree, if the other event leaves its test as it is
modn_agree : (j : Key) (a : Action) (w : Effect) (t : Table) → any_of (inside j.pattern) (after w t) ≡ any_of (inside j.pattern) t
    → after w (assign_if (inside j.pattern) a t) ≡ assign_if (inside j.pattern) a (after w t)
    → answer w (assign_if (inside j.pattern) a t) ≡ answer w t
    → (any_of (inside j.pattern) t ≡ false → Agree (Effect.Add j a) w t) → Agree (Effect.Modn j a) w t
unfolding answer after
modn_agree j a w t e f h g = split (any_of (inside j.pattern) t) assigned added
  where
    assigned : any_of (inside j.pattern) t ≡ true → Agree (Effect.Modn j a) w t
    assigned u = record {
      tables = ap (after w) (modn_yes j a t u) ∙ f ∙ sym (modn_yes j a (after w t) (e ∙ u));
      first = refl;
      second = ap (answer w) (modn_yes j a t u) ∙ h;
    }

    added : any_of (inside j.pattern) t ≡ false → Agree (Effect.Modn j a) w t
    added u = record {
      tables = ap (after w) (modn_no j a t u) ∙ (g u).tables ∙ sym (modn_no j a (after w t) (e ∙ u));
      first = refl;
      second = ap (answer w) (modn_no j a t u) ∙ (g u).second;
    }

-- a test that the key of a write doesn't pass is not changed by the write
any_add : (p : Key → Bool) (k : Key) (b : Action) (t : Table) → p k ≡ false → any_of p (insert k b t) ≡ any_of p t
any_add p k b t h = any_insert p k b t ∙ ap (λ c. c || any_of p t) h

any_addc : (p : Key → Bool) (k : Key) (b : Action) (t : Table) → p k ≡ false → any_of p (after (Effect.Addc k b) t) ≡ any_of p t
any_addc p k b t h = split (any_of (clash k) t) (λ e. ap (any_of p) (addc_no k b t e)) (λ e. ap (any_of p) (addc_yes k b t e) ∙ any_add p k b t h)

any_modn : (p : Key → Bool) (k : Key) (b : Action) (t : Table) → p k ≡ false → any_of p (after (Effect.Modn k b) t) ≡ any_of p t
any_modn p k b t h = split (any_of (inside k.pattern) t) (λ e. ap (any_of p) (modn_yes k b t e) ∙ any_assign p (inside k.pattern) b t) (λ e. ap (any_of p) (modn_no k b t e) ∙ any_add p k b t h)

any_dels : (p : Key → Bool) (k : Key) (t : Table) → p k ≡ false → any_of p (remove_if (same_key k) t) ≡ any_of p t
any_dels p k t h = any_remove p (same_key k) (λ i u v. true≢false (sym u ∙ ap p (sym (same_eq k i v)) ∙ h)) t

-- the pairs
module _ (t : Table) (s : Sorted t) where
  add_add_agree : (j : Key) (a : Action) (k : Key) (b : Action) → add_add j a k b ≡ true → Agree (Effect.Add j a) (Effect.Add k b) t
  unfolding after answer
  add_add_agree j a k b h = record { tables = or_cases (not (same_key j k)) (same_action a b) h (λ e. insert_insert j k a b (not-true (same_key j k) e) t s) equal; first = refl; second = refl }
    where
      equal : same_action a b ≡ true → insert k b (insert j a t) ≡ insert j a (insert k b t)
      equal u = split (same_key j k) (λ e. rw (same_eq j k e, action_eq a b u) refl) (λ e. insert_insert j k a b e t s)

  add_dels_agree : (j : Key) (a : Action) (k : Key) → add_dels j k ≡ true → Agree (Effect.Add j a) (Effect.Dels k) t
  unfolding after answer
  add_dels_agree j a k h = record { tables = insert_remove j a (same_key k) (sym (same_sym j k) ∙ not-true (same_key j k) h) t s; first = refl; second = refl }

  add_deln_agree : (j : Key) (a : Action) (m : Match) → add_deln j m ≡ true → Agree (Effect.Add j a) (Effect.Deln m) t
  unfolding after answer
  add_deln_agree j a m h = record { tables = insert_remove j a (inside m) (not-true (inside m j) h) t s; first = refl; second = refl }

  -- an add beside a modn within which it doesn't lie
  add_modn_apart : (j : Key) (a : Action) (k : Key) (b : Action) → inside k.pattern j ≡ false → Agree (Effect.Modn k b) (Effect.Add j a) t
  unfolding after answer
  add_modn_apart j a k b h = modn_agree k b (Effect.Add j a) t (any_add (inside k.pattern) j a t h)
      (sym (insert_assign j a (inside k.pattern) b (λ u. absurd (true≢false (sym u ∙ h))) t s)) refl
      (λ e. record { tables = insert_insert k j b a (differ_of k j (λ q. true≢false (sym (inside_self k) ∙ ap (inside k.pattern) q ∙ h))) t s; first = refl; second = refl })

  -- an add beside a modn of the sameKey key and action
  add_modn_same : (k : Key) (b : Action) → after (Effect.Modn k b) (insert k b t) ≡ insert k b (after (Effect.Modn k b) t)
  add_modn_same k b =
      modn_yes k b (insert k b t) (any_insert (inside k.pattern) k b t ∙ ap (λ c. c || any_of (inside k.pattern) t) (inside_self k))
      ∙ insert_assign k b (inside k.pattern) b (λ u. refl) t s
      ∙ split (any_of (inside k.pattern) t)
      (λ e. ap (insert k b) (sym (modn_yes k b t e)))
      (λ e. ap (insert k b) (assign_idle (inside k.pattern) b t s e) ∙ sym (insert_twice k b t s) ∙ ap (insert k b) (sym (modn_no k b t e)))

  add_modn_agree : (j : Key) (a : Action) (k : Key) (b : Action) → add_modn j a k b ≡ true → Agree (Effect.Add j a) (Effect.Modn k b) t
  unfolding after answer
  add_modn_agree j a k b h = or_cases (not (inside k.pattern j)) (same_key j k && same_action a b) h
      (λ e. agree_sym (add_modn_apart j a k b (not-true (inside k.pattern j) e)))
      (λ e. rw (same_eq j k (and_left (same_key j k) (same_action a b) e), action_eq a b (and_right (same_key j k) (same_action a b) e)) (record { tables = add_modn_same k b; first = refl; second = refl }))

  addc_add_agree : (j : Key) (a : Action) (k : Key) (b : Action) → clash j k ≡ false → Agree (Effect.Addc j a) (Effect.Add k b) t
  unfolding after answer
  addc_add_agree j a k b h = addc_agree j a (Effect.Add k b) t (any_add (clash j) k b t h)
      (λ e. record { tables = insert_insert j k a b (differ_of j k (λ q. true≢false (sym (clash_self j) ∙ ap (clash j) q ∙ h))) t s; first = refl; second = refl })

  addc_addc_agree : (j : Key) (a : Action) (k : Key) (b : Action) → clash j k ≡ false → Agree (Effect.Addc j a) (Effect.Addc k b) t
  addc_addc_agree j a k b h = addc_agree j a (Effect.Addc k b) t (any_addc (clash j) k b t h) (λ e. agree_sym (addc_add_agree k b j a (clash_false j k h)))

  addc_dels_agree : (j : Key) (a : Action) (k : Key) → clash j k ≡ false → Agree (Effect.Addc j a) (Effect.Dels k) t
  unfolding after answer
  addc_dels_agree j a k h = addc_agree j a (Effect.Dels k) t (any_dels (clash j) k t h)
      (λ e. record { tables = insert_remove j a (same_key k) (apart (clash j) k j h (clash_self j)) t s; first = refl; second = refl })

  addc_modn_agree : (j : Key) (a : Action) (k : Key) (b : Action) → addc_modn j k ≡ true → Agree (Effect.Addc j a) (Effect.Modn k b) t
  unfolding after answer
  addc_modn_agree j a k b h =
      addc_agree j a (Effect.Modn k b) t (any_modn (clash j) k b t (calm j k (and_right (not (inside k.pattern j)) (addc_other j k) h)))
      (λ e. agree_sym (add_modn_apart j a k b (not-true (inside k.pattern j) (and_left (not (inside k.pattern j)) (addc_other j k) h))))

  addc_deln_agree : (j : Key) (a : Action) (m : Match) → overlaps j.pattern m ≡ false → Agree (Effect.Addc j a) (Effect.Deln m) t
  unfolding after answer
  addc_deln_agree j a m h = addc_agree j a (Effect.Deln m) t
      (any_remove (clash j) (inside m) (λ i u v. not_in_both j.pattern m h i (and_right (eqb j.priority i.priority) (overlaps j.pattern i.pattern) u) v) t)
      (λ e. record { tables = insert_remove j a (inside m) (outside j.pattern m h) t s; first = refl; second = refl })

  modn_dels_agree : (j : Key) (a : Action) (k : Key) → modn_dels j k ≡ true → Agree (Effect.Modn j a) (Effect.Dels k) t
  unfolding after answer
  modn_dels_agree j a k h =
      let o = not-true (inside j.pattern k) h in
      modn_agree j a (Effect.Dels k) t (any_dels (inside j.pattern) k t o) (assign_remove (inside j.pattern) (same_key k) a t s) refl
      (λ e. record { tables = insert_remove j a (same_key k) (apart (inside j.pattern) k j o (inside_self j)) t s; first = refl; second = refl })

  modn_deln_agree : (j : Key) (a : Action) (m : Match) → overlaps j.pattern m ≡ false → Agree (Effect.Modn j a) (Effect.Deln m) t
  unfolding after answer
  modn_deln_agree j a m h =
      modn_agree j a (Effect.Deln m) t (any_remove (inside j.pattern) (inside m) (λ i u v. not_in_both j.pattern m h i (inside_overlap j.pattern i u) v) t)
      (assign_remove (inside j.pattern) (inside m) a t s) refl
      (λ e. record { tables = insert_remove j a (inside m) (outside j.pattern m h) t s; first = refl; second = refl })

  -- two modifies neither of which lies within the other, if no key lies within both or the actions are equal
  modn_modn_apart : (j : Key) (a : Action) (k : Key) (b : Action) → inside k.pattern j ≡ false → inside j.pattern k ≡ false
      → ((i : Key) → inside j.pattern i ≡ true → inside k.pattern i ≡ true → a ≡ b) → Agree (Effect.Modn j a) (Effect.Modn k b) t
  unfolding after answer
  modn_modn_apart j a k b u v h =
      modn_agree j a (Effect.Modn k b) t (any_modn (inside j.pattern) k b t v) assigned refl (λ e. agree_sym (add_modn_apart j a k b u))
    where
      kept : any_of (inside k.pattern) (assign_if (inside j.pattern) a t) ≡ any_of (inside k.pattern) t
      kept = any_assign (inside k.pattern) (inside j.pattern) a t

      assigned : after (Effect.Modn k b) (assign_if (inside j.pattern) a t) ≡ assign_if (inside j.pattern) a (after (Effect.Modn k b) t)
      assigned = split (any_of (inside k.pattern) t)
          (λ e. modn_yes k b (assign_if (inside j.pattern) a t) (kept ∙ e) ∙ assign_assign (inside j.pattern) (inside k.pattern) a b h t s
          ∙ ap (assign_if (inside j.pattern) a) (sym (modn_yes k b t e)))
          (λ e. modn_no k b (assign_if (inside j.pattern) a t) (kept ∙ e)
          ∙ sym (insert_assign k b (inside j.pattern) a (λ w. absurd (true≢false (sym w ∙ v))) t s)
          ∙ ap (assign_if (inside j.pattern) a) (sym (modn_no k b t e)))

  modn_modn_agree : (j : Key) (a : Action) (k : Key) (b : Action) → modn_modn j a k b ≡ true → Agree (Effect.Modn j a) (Effect.Modn k b) t
  unfolding after answer
  modn_modn_agree j a k b h =
      let c = same_action a b in
      let both = c && (not (inside k.pattern j) && not (inside j.pattern k)) in
      or_cases (not (overlaps j.pattern k.pattern)) (both || (same_key j k && c)) h clear
      (λ e. or_cases both (same_key j k && c) e equal
      (λ f. rw (same_eq j k (and_left (same_key j k) c f), action_eq a b (and_right (same_key j k) c f)) (record { tables = refl; first = refl; second = refl })))
    where
      clear : not (overlaps j.pattern k.pattern) ≡ true → Agree (Effect.Modn j a) (Effect.Modn k b) t
      clear e =
          let o = not-true (overlaps j.pattern k.pattern) e in
          modn_modn_apart j a k b (outside j.pattern k.pattern o) (outside k.pattern j.pattern (overlap_false j.pattern k.pattern o))
          (λ i u v. absurd (not_in_both j.pattern k.pattern o i (inside_overlap j.pattern i u) v))

      equal : (same_action a b && (not (inside k.pattern j) && not (inside j.pattern k))) ≡ true → Agree (Effect.Modn j a) (Effect.Modn k b) t
      equal e =
          let f = and_right (same_action a b) (not (inside k.pattern j) && not (inside j.pattern k)) e in
          modn_modn_apart j a k b
          (not-true (inside k.pattern j) (and_left (not (inside k.pattern j)) (not (inside j.pattern k)) f))
          (not-true (inside j.pattern k) (and_right (not (inside k.pattern j)) (not (inside j.pattern k)) f))
          (λ i u v. action_eq a b (and_left (same_action a b) (not (inside k.pattern j) && not (inside j.pattern k)) e))

  -- packets
  pkt_agree : (p : Packet) (w : Effect) → ((i : Key) → admits p i ≡ true → get i (after w t) ≡ get i t) → Agree (Effect.Pkt p) w t
  unfolding after answer
  pkt_agree p w h = record { tables = refl; first = ap best fit; second = refl }
    where
      at : (i : Key) (b : Bool) → admits p i ≡ b → cond (not b) None (get i (after w t)) ≡ cond (not b) None (get i t)
      at i true e = h i e
      at i false e = refl

      fit : fitting p (after w t) ≡ fitting p t
      fit = table_ext (fitting p (after w t)) (fitting p t) (sorted_remove (λ k. not (admits p k)) (after w t) (sorted_after w t s)) (sorted_remove (λ k. not (admits p k)) t s)
          (λ i. simp get_remove (at i (admits p i) refl))

  module _ (p : Packet) where
    insert_unseen : (k : Key) (a : Action) → admits p k ≡ false → (i : Key) → admits p i ≡ true → get i (insert k a t) ≡ get i t
    insert_unseen k a h i e = get_insert i k a t ∙ ap (λ b. cond b (Some a) (get i t)) (differ_of i k (λ q. true≢false (sym e ∙ ap (admits p) q ∙ h)))

    -- a key that admits the packet doesn't lie within a match that doesn't
    unseen : (m : Match) → fits m p ≡ false → (i : Key) → admits p i ≡ true → inside m i ≡ false
    unseen m h i e = split (inside m i) (λ w. absurd (true≢false (sym (match_field.within_fits i.pattern m w p e) ∙ h))) (λ w. w)

    pkt_add : (k : Key) (a : Action) → admits p k ≡ false → Agree (Effect.Pkt p) (Effect.Add k a) t
    unfolding after
    pkt_add k a h = pkt_agree p (Effect.Add k a) (insert_unseen k a h)

    pkt_addc : (k : Key) (a : Action) → admits p k ≡ false → Agree (Effect.Pkt p) (Effect.Addc k a) t
    pkt_addc k a h = pkt_agree p (Effect.Addc k a) (λ i e. split (any_of (clash k) t) (λ u. ap (get i) (addc_no k a t u)) (λ u. ap (get i) (addc_yes k a t u) ∙ insert_unseen k a h i e))

    pkt_modn : (k : Key) (a : Action) → admits p k ≡ false → Agree (Effect.Pkt p) (Effect.Modn k a) t
    pkt_modn k a h = pkt_agree p (Effect.Modn k a) (λ i e. split (any_of (inside k.pattern) t)
        (λ u. ap (get i) (modn_yes k a t u) ∙ get_assign i (inside k.pattern) a t ∙ ap (λ b. cond b (overwrite a (get i t)) (get i t)) (unseen k.pattern h i e))
        (λ u. ap (get i) (modn_no k a t u) ∙ insert_unseen k a h i e))

    pkt_dels : (k : Key) → admits p k ≡ false → Agree (Effect.Pkt p) (Effect.Dels k) t
    unfolding after
    pkt_dels k h = pkt_agree p (Effect.Dels k) (λ i e. get_remove i (same_key k) t ∙ ap (λ b. cond b None (get i t)) (differ_of k i (λ q. true≢false (sym e ∙ ap (admits p) (sym q) ∙ h))))

    pkt_deln : (m : Match) → fits m p ≡ false → Agree (Effect.Pkt p) (Effect.Deln m) t
    unfolding after
    pkt_deln m h = pkt_agree p (Effect.Deln m) (λ i e. get_remove i (inside m) t ∙ ap (λ b. cond b None (get i t)) (unseen m h i e))

  pub idle_agree : (w : Effect) → Agree Effect.Idle w t
  unfolding after answer
  idle_agree w = record { tables = refl; first = refl; second = refl }

  -- where the test says yes, the two orders agree
  pub commutes_sound : (v w : Effect) → commutes v w ≡ true → Agree v w t
  unfolding commutes after answer
  commutes_sound Effect.Idle w h = idle_agree w
  commutes_sound (Effect.Pkt p) Effect.Idle h = agree_sym (idle_agree (Effect.Pkt p))
  commutes_sound (Effect.Pkt p) (Effect.Pkt q) h = record { tables = refl; first = refl; second = refl }
  commutes_sound (Effect.Pkt p) (Effect.Add k b) h = pkt_add p k b (not-true (admits p k) h)
  commutes_sound (Effect.Pkt p) (Effect.Addc k b) h = pkt_addc p k b (not-true (admits p k) h)
  commutes_sound (Effect.Pkt p) (Effect.Modn k b) h = pkt_modn p k b (not-true (admits p k) h)
  commutes_sound (Effect.Pkt p) (Effect.Dels k) h = pkt_dels p k (not-true (admits p k) h)
  commutes_sound (Effect.Pkt p) (Effect.Deln m) h = pkt_deln p m (not-true (fits m p) h)
  commutes_sound (Effect.Add j a) Effect.Idle h = agree_sym (idle_agree (Effect.Add j a))
  commutes_sound (Effect.Add j a) (Effect.Pkt p) h = agree_sym (pkt_add p j a (not-true (admits p j) h))
  commutes_sound (Effect.Add j a) (Effect.Add k b) h = add_add_agree j a k b h
  commutes_sound (Effect.Add j a) (Effect.Addc k b) h = agree_sym (addc_add_agree k b j a (calm k j h))
  commutes_sound (Effect.Add j a) (Effect.Modn k b) h = add_modn_agree j a k b h
  commutes_sound (Effect.Add j a) (Effect.Dels k) h = add_dels_agree j a k h
  commutes_sound (Effect.Add j a) (Effect.Deln m) h = add_deln_agree j a m h
  commutes_sound (Effect.Addc j a) Effect.Idle h = agree_sym (idle_agree (Effect.Addc j a))
  commutes_sound (Effect.Addc j a) (Effect.Pkt p) h = agree_sym (pkt_addc p j a (not-true (admits p j) h))
  commutes_sound (Effect.Addc j a) (Effect.Add k b) h = addc_add_agree j a k b (calm j k h)
  commutes_sound (Effect.Addc j a) (Effect.Addc k b) h = addc_addc_agree j a k b (calm j k h)
  commutes_sound (Effect.Addc j a) (Effect.Modn k b) h = addc_modn_agree j a k b h
  commutes_sound (Effect.Addc j a) (Effect.Dels k) h = addc_dels_agree j a k (calm j k h)
  commutes_sound (Effect.Addc j a) (Effect.Deln m) h = addc_deln_agree j a m (not-true (overlaps j.pattern m) h)
  commutes_sound (Effect.Modn j a) Effect.Idle h = agree_sym (idle_agree (Effect.Modn j a))
  commutes_sound (Effect.Modn j a) (Effect.Pkt p) h = agree_sym (pkt_modn p j a (not-true (admits p j) h))
  commutes_sound (Effect.Modn j a) (Effect.Add k b) h = agree_sym (add_modn_agree k b j a h)
  commutes_sound (Effect.Modn j a) (Effect.Addc k b) h = agree_sym (addc_modn_agree k b j a h)
  commutes_sound (Effect.Modn j a) (Effect.Modn k b) h = modn_modn_agree j a k b h
  commutes_sound (Effect.Modn j a) (Effect.Dels k) h = modn_dels_agree j a k h
  commutes_sound (Effect.Modn j a) (Effect.Deln m) h = modn_deln_agree j a m (not-true (overlaps j.pattern m) h)
  commutes_sound (Effect.Dels j) Effect.Idle h = agree_sym (idle_agree (Effect.Dels j))
  commutes_sound (Effect.Dels j) (Effect.Pkt p) h = agree_sym (pkt_dels p j (not-true (admits p j) h))
  commutes_sound (Effect.Dels j) (Effect.Add k b) h = agree_sym (add_dels_agree k b j h)
  commutes_sound (Effect.Dels j) (Effect.Addc k b) h = agree_sym (addc_dels_agree k b j (calm k j h))
  commutes_sound (Effect.Dels j) (Effect.Modn k b) h = agree_sym (modn_dels_agree k b j h)
  commutes_sound (Effect.Dels j) (Effect.Dels k) h = record { tables = remove_remove (same_key j) (same_key k) t s; first = refl; second = refl }
  commutes_sound (Effect.Dels j) (Effect.Deln m) h = record { tables = remove_remove (same_key j) (inside m) t s; first = refl; second = refl }
  commutes_sound (Effect.Deln m) Effect.Idle h = agree_sym (idle_agree (Effect.Deln m))
  commutes_sound (Effect.Deln m) (Effect.Pkt p) h = agree_sym (pkt_deln p m (not-true (fits m p) h))
  commutes_sound (Effect.Deln m) (Effect.Add k b) h = agree_sym (add_deln_agree k b m h)
  commutes_sound (Effect.Deln m) (Effect.Addc k b) h = agree_sym (addc_deln_agree k b m (not-true (overlaps k.pattern m) h))
  commutes_sound (Effect.Deln m) (Effect.Modn k b) h = agree_sym (modn_deln_agree k b m (not-true (overlaps k.pattern m) h))
  commutes_sound (Effect.Deln m) (Effect.Dels k) h = record { tables = remove_remove (inside m) (same_key k) t s; first = refl; second = refl }
  commutes_sound (Effect.Deln m) (Effect.Deln n) h = record { tables = remove_remove (inside m) (inside n) t s; first = refl; second = refl }
