-- An order that keeps happens-before and has each listed pair in recorded order leaves the tables and answers of the recorded
-- order, from ALL starting tables in order. Assumes nothing.
use mathlib.Core.Path.{◌≡◌, refl, sym, ◌∙◌, ap, fun_ext}
use mathlib.Core.Bool.{Bool, true, false, ◌&&◌, ◌||◌, not, cond, true≢false}
use mathlib.Core.List.{List}
use Prim.Native.Nat.{ℕ, ◌<◌}
use lib.Dec.{eqb}
use borrow.Author.Tests.{eqb-true, eq-eqb, not-false}
use Rattle.basics.proofs.Booleans.{split, or_cases, or_left, or_right}
use Rattle.flow_table.specs.FlowTable.{Table, Sorted, effect_of, after, answer}
use Rattle.flow_table.proofs.Effects.{sorted_after}
use Rattle.commuting.specs.Commuting.{Agree, commutes}
use Rattle.commuting.proofs.Sound.{commutes_sound, agree_sym, idle_agree}
use Rattle.order_meaning.specs.Types.{Operation}
use Rattle.order_meaning.specs.Orders.{from, stands, IsOrderOf, Independent, Agrees}
use Rattle.order_meaning.specs.Tables.{end_tables, answers}
use Rattle.flow_table.specs.Switches.{Tables, InOrder, switch_of, uses_table, step_of, answer_of}
use Rattle.list_verdicts.specs.Kinds.{paired, listed, is_kind}
use Rattle.order_meaning.proofs.OrderLaws.{order_agrees}

in_order_lem : (e : Operation) (s : Tables) → InOrder s → InOrder (step_of e s)
unfolding step_of
in_order_lem e s g w = go (eqb w (switch_of e))
  where
    go : (b : Bool) → Sorted (cond b (after (effect_of e) (s w)) (s w))
    go true = sorted_after (effect_of e) (s w) (g w)
    go false = g w

module _ (e f : Operation) (agree : eqb (switch_of e) (switch_of f) ≡ true → (t : Table) → Sorted t → Agree (effect_of e) (effect_of f) t) (s : Tables) (g : InOrder s) where
  step_step : step_of f (step_of e s) ≡ step_of e (step_of f s)
  unfolding step_of
  step_step = fun_ext (λ w. at w (eqb w (switch_of e)) refl (eqb w (switch_of f)) refl)
    where
      at : (w : ℕ) (b : Bool) → eqb w (switch_of e) ≡ b → (c : Bool) → eqb w (switch_of f) ≡ c
          → cond c (after (effect_of f) (cond b (after (effect_of e) (s w)) (s w))) (cond b (after (effect_of e) (s w)) (s w))
          ≡ cond b (after (effect_of e) (cond c (after (effect_of f) (s w)) (s w))) (cond c (after (effect_of f) (s w)) (s w))
      at w true u true v = (agree (eq-eqb (switch_of e) (switch_of f) (sym (eqb-true w (switch_of e) u) ∙ eqb-true w (switch_of f) v)) (s w) (g w)).tables
      at w true u false v = refl
      at w false u true v = refl
      at w false u false v = refl

  answer_first : answer_of e (step_of f s) ≡ answer_of e s
  unfolding answer_of step_of
  answer_first = at (eqb (switch_of e) (switch_of f)) refl
    where
      at : (b : Bool) → eqb (switch_of e) (switch_of f) ≡ b → answer (effect_of e) (cond b (after (effect_of f) (s (switch_of e))) (s (switch_of e))) ≡ answer (effect_of e) (s (switch_of e))
      at true u = (agree u (s (switch_of e)) (g (switch_of e))).first
      at false u = refl

  answer_second : answer_of f (step_of e s) ≡ answer_of f s
  unfolding answer_of step_of
  answer_second = at (eqb (switch_of f) (switch_of e)) refl
    where
      at : (b : Bool) → eqb (switch_of f) (switch_of e) ≡ b → answer (effect_of f) (cond b (after (effect_of e) (s (switch_of f))) (s (switch_of f))) ≡ answer (effect_of f) (s (switch_of f))
      at true u = (agree (eq-eqb (switch_of e) (switch_of f) (sym (eqb-true (switch_of f) (switch_of e) u))) (s (switch_of f)) (g (switch_of f))).second
      at false u = refl

idle_left : (e f : Operation) → uses_table e ≡ false → (t : Table) → Sorted t → Agree (effect_of e) (effect_of f) t
idle_left Operation.Other f h t s = idle_agree t s (effect_of f)
idle_left (Operation.Barrier w) f h t s = idle_agree t s (effect_of f)
idle_left (Operation.Message w) f h t s = idle_agree t s (effect_of f)
idle_left (Operation.Table w o) f h t s = absurd (true≢false h)

-- events that are neither ordered nor listed agree where they meet
unlisted_agree : (e f : Operation) (o : Bool) → o ≡ false → (paired e f && (not o && not (commutes (effect_of e) (effect_of f)))) ≡ false
    → eqb (switch_of e) (switch_of f) ≡ true → (t : Table) → Sorted t → Agree (effect_of e) (effect_of f) t
unfolding paired
unlisted_agree e f o q h u t s =
    split (uses_table e)
    (λ a. split (uses_table f)
    (λ b. commutes_sound t s (effect_of e) (effect_of f) (not-false (commutes (effect_of e) (effect_of f)) (rw (a, b, u, q) at h)))
    (λ b. agree_sym (idle_left f e b t s)))
    (λ a. idle_left e f a t s)

module _ (ev : ℕ → Operation) (n : ℕ) (hb : ℕ → ℕ → Bool) (o : List ℕ) (order : IsOrderOf n o)
    (keeps : (i j : ℕ) → i < j → j < n → hb i j ≡ true → stands i j o ≡ true)
    (in_turn : (i j : ℕ) → i < j → j < n → is_kind listed (ev i) (ev j) (hb i j) ≡ true → stands i j o ≡ true) where
  all_agree : (s : Tables) → InOrder s → Agrees (λ i. step_of (ev i)) (λ i. answer_of (ev i)) o (from 0 n) s
  all_agree = order_agrees (λ i. step_of (ev i)) (λ i. answer_of (ev i)) InOrder (λ i. in_order_lem (ev i)) n o order (λ i j. hb i j || is_kind listed (ev i) (ev j) (hb i j)) free kept
    where
      free : (i j : ℕ) → i < j → j < n → (hb i j || is_kind listed (ev i) (ev j) (hb i j)) ≡ false → Independent (λ i. step_of (ev i)) (λ i. answer_of (ev i)) InOrder i j
      free i j l m h =
          let q = or_left (hb i j) (is_kind listed (ev i) (ev j) (hb i j)) h in
          let agree = unlisted_agree (ev i) (ev j) (hb i j) q (or_right (hb i j) (is_kind listed (ev i) (ev j) (hb i j)) h) in
          record { states = λ s g. step_step (ev i) (ev j) agree s g; first = λ s g. answer_first (ev i) (ev j) agree s g; second = λ s g. answer_second (ev i) (ev j) agree s g }

      kept : (i j : ℕ) → i < j → j < n → (hb i j || is_kind listed (ev i) (ev j) (hb i j)) ≡ true → stands i j o ≡ true
      kept i j l m h = or_cases (hb i j) (is_kind listed (ev i) (ev j) (hb i j)) h (keeps i j l m) (in_turn i j l m)

  -- every switch ends with the same table
  pub same_tables : (s : Tables) → InOrder s → (w : ℕ) → end_tables ev o s w ≡ end_tables ev (from 0 n) s w
  same_tables s g w = ap (λ (t : Tables). t w) (all_agree s g).states

  -- each event has the same answer
  pub same_answers : (s : Tables) → InOrder s → (i : ℕ) → answers ev o s i ≡ answers ev (from 0 n) s i
  same_answers s g i = (all_agree s g).answers i
