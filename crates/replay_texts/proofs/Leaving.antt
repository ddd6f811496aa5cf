-- What each path through the writing of both texts leaves: its answer and the two buffers. Assumes nothing.
use Rattle.std.specs.Prelude.{Ok, Err}
use mathlib.Core.Path.{◌≡◌, refl, sym, ap, ◌∙◌}
use mathlib.Core.List.{List, ◌++◌}
use Prim.Native.Nat.{ℕ, ◌≤◌, ◌<◌}
use native.Mathlib.Omega.{arith}
use borrow.Author.Tests.{lt-ltb, le-ltb}
use lib.ListN.{length, drop}
use Rattle.refusals.specs.Checks.{Checked, written}
use Rattle.text_numbers.specs.Inner.{Put}
use Rattle.text_numbers.proofs.Writing.{put_whole}
use Rattle.tables_normal.specs.Normal.{normal_text}
use Rattle.replay_answers.specs.Answers.{answers_text}
use Rattle.replay_texts.specs.Types.{Refusal, Answer, Row}
use Rattle.replay_texts.specs.Writing.{Replayed, replay_answer, tables_to_write, answers_to_write}
use Rattle.replay_texts.specs.Inner.{both_texts, fitting_both, Leaves}

module _ {y z : Checked Replayed} {r : Checked (ℕ × ℕ)} {old new old' new' : List ℕ} where
  pub leaves_as : y ≡ z → Leaves y r old new old' new' → Leaves z r old new old' new'
  leaves_as e l = record { answer = l.answer ∙ ap replay_answer e; tables = l.tables ∙ ap (λ x. written (tables_to_write x) old) e; answers = l.answers ∙ ap (λ x. written (answers_to_write x) old') e }

-- after a refusal both buffers are as they were
pub refused_as_lem : {y : Checked Replayed} {e : Refusal} {old old' : List ℕ} → Err e ≡ y → Leaves y (Err e) old old old' old'
refused_as_lem p = leaves_as p (record { answer = refl; tables = refl; answers = refl })

-- ---- 32, 33, or both texts written
module _ (rs : List Row) (given : ℕ → Answer) (n : ℕ) (old old' : List ℕ) {m : ℕ} (tables : m ≡ length (normal_text rs)) where
  pub tables_short : length old < m → Leaves (fitting_both (both_texts rs given n) (length old) (length old')) (Err (Refusal.TablesShort m)) old old old' old'
  unfolding both_texts
  tables_short h = refused_as_lem (rw tables (sym (rw (lt-ltb (length old) (length (normal_text rs)) (omega arith)))))

  module _ (room : m ≤ length old) {k : ℕ} (answers : k ≡ length (answers_text given n)) where
    pub answers_short : length old' < k → Leaves (fitting_both (both_texts rs given n) (length old) (length old')) (Err (Refusal.AnswersShort k)) old old old' old'
    unfolding both_texts
    answers_short h =
        refused_as_lem (rw answers (sym (rw (le-ltb (length old) (length (normal_text rs)) (omega arith), lt-ltb (length old') (length (answers_text given n)) (omega arith)))))

    pub both_written : k ≤ length old' → {a b : ℕ} {new new' : List ℕ} → Put (normal_text rs) 0 old a new → Put (answers_text given n) 0 old' b new'
        → Leaves (fitting_both (both_texts rs given n) (length old) (length old')) (Ok (a, b)) old new old' new'
    unfolding both_texts
    both_written room' {a} {b} p q =
        let e : a ≡ length (normal_text rs) = omega (arith, p.after) in
        let f : b ≡ length (answers_text given n) = omega (arith, q.after) in
        leaves_as {y = Ok (both_texts rs given n)}
        (sym (rw (le-ltb (length old) (length (normal_text rs)) (omega arith), le-ltb (length old') (length (answers_text given n)) (omega arith)) refl))
        (record {
          answer = λ i. Ok (e i, f i);
          tables = put_whole p (omega arith) ∙ ap (λ (i : ℕ). normal_text rs ++ drop i old) e;
          answers = put_whole q (omega arith) ∙ ap (λ (i : ℕ). answers_text given n ++ drop i old') f;
        })
