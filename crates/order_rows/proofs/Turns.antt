-- The turns of a run, event by event. Assumes nothing.
use mathlib.Core.Path.{◌≡◌, refl, sym, ap, ◌∙◌}
use mathlib.Core.Bool.{cond}
use mathlib.Core.List.{List, ◌∷◌}
use Prim.Native.Nat.{ℕ, ◌+◌, ◌≤◌, ◌<◌}
use native.Mathlib.Numerals.{add-one}
use lib.Dec.{eqb}
use lib.ListN.{length, get_or, set, drop, drop_of_length-le}
use lib.Seq.{drop-cons, get_or-set_same, get_or-set_other}
use borrow.Author.Tests.{eqb-true, eqb-false}
use Rattle.basics.proofs.Booleans.{split}
use Rattle.rows_step.specs.Stepping.{step_rows, answer_rows}
use Rattle.replay_answers.specs.Inner.{kept, no_answer, kept_at}
use Rattle.order_rows.specs.Types.{Answer, Event, Row, Kept}
use Rattle.order_rows.specs.Runs.{operation_at}
use Rattle.order_rows.specs.Inner.{run_rows, kept_in, answers_in}

at_place : (o : List ℕ) (p : ℕ) → p < length o → drop p o ≡ get_or o p 0 ∷ drop (p + 1) o
at_place o p h = rw (add-one, drop-cons o p 0)

-- an answer stored
kept_set : (ks : List Kept) (e i : ℕ) (k : Kept) → e < length ks → kept_at (set ks e k) i ≡ cond (eqb i e) k.answer (kept_at ks i)
kept_set ks e i k l =
    split (eqb i e)
    (λ u. rw u (ap (kept_at (set ks e k)) (eqb-true i e u) ∙ ap (λ x. x.answer) (get_or-set_same ks e k no_answer l)))
    (λ u. rw u (ap (λ x. x.answer) (get_or-set_other ks e i k no_answer (eqb-false i e u))))

-- a run of o that has come to place p: the rest of the order does to the rows so far, and keeps beside the answers so far, what the
-- order does from the start
pub record ComeTo (es : List Event) (o : List ℕ) (start : List Row) (p : ℕ) (ks : List Kept) (rs : List Row) : Type 0 where
  pub rows : run_rows es (drop p o) rs ≡ run_rows es o start
  pub answers : (i : ℕ) → kept_in es i (drop p o) rs (kept_at ks i) ≡ answers_in es o start i

module _ (es : List Event) (o : List ℕ) (start : List Row) where
  pub come_start : (ks : List Kept) → ((i : ℕ) → kept_at ks i ≡ Answer.Silent) → ComeTo es o start 0 ks start
  unfolding answers_in
  come_start ks k = record {
    rows = refl;
    answers = λ i. ap (kept_in es i o start) (k i);
  }

  module _ (p : ℕ) (ks : List Kept) (rs : List Row) (r : ComeTo es o start p ks rs) where
    -- one event more, by the rows that it leaves and its answer
    pub come_turn : p < length o → get_or o p 0 < length ks → (rs₁ : List Row) (a : Answer)
        → rs₁ ≡ step_rows (operation_at es (get_or o p 0)) rs → a ≡ answer_rows (operation_at es (get_or o p 0)) rs → ComeTo es o start (p + 1) (set ks (get_or o p 0) (kept a)) rs₁
    unfolding run_rows kept_in
    come_turn h e rs₁ a f q = record {
      rows = ap (run_rows es (drop (p + 1) o)) f ∙ sym (ap (λ z. run_rows es z rs) (at_place o p h)) ∙ r.rows;
      answers = λ i.
          ap (λ z. kept_in es i (drop (p + 1) o) z (kept_at (set ks (get_or o p 0) (kept a)) i)) f
          ∙ ap (kept_in es i (drop (p + 1) o) (step_rows (operation_at es (get_or o p 0)) rs)) (kept_set ks (get_or o p 0) i (kept a) e ∙ ap (λ v. cond (eqb i (get_or o p 0)) v (kept_at ks i)) q)
          ∙ sym (ap (λ z. kept_in es i z rs (kept_at ks i)) (at_place o p h)) ∙ r.answers i;
    }

    -- no event is left
    pub rows_done : length o ≤ p → rs ≡ run_rows es o start
    unfolding run_rows
    rows_done h = sym (ap (λ z. run_rows es z rs) (drop_of_length-le o h)) ∙ r.rows

    pub answers_done : length o ≤ p → (i : ℕ) → kept_at ks i ≡ answers_in es o start i
    unfolding kept_in
    answers_done h i = sym (ap (λ z. kept_in es i z rs (kept_at ks i)) (drop_of_length-le o h)) ∙ r.answers i
