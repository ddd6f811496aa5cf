-- Buffers that are long enough for both texts, and what a replay leaves in them. Assumes nothing.
use Rattle.std.specs.Prelude.{Ok, Err}
use mathlib.Core.Path.{◌≡◌, refl, sym, ap, ◌∙◌}
use mathlib.Core.Bool.{Bool, true, false}
use mathlib.Core.List.{List}
use Prim.Native.Nat.{ℕ, ◌≤◌}
use lib.Dec.{ltb}
use lib.ListN.{length}
use borrow.Author.Tests.{le-ltb}
use Rattle.text_reader.proofs.Each.{accepts}
use Rattle.refusals.specs.Checks.{Checked, ◌▹◌, refuse_if, written}
use Rattle.replay_texts.specs.Writing.{Replayed, replay_answer, tables_to_write, answers_to_write}
use Rattle.replay_texts.specs.Inner.{fitting_both}
use Rattle.replay_call.specs.Replay.{replayed}
use Rattle.replay_agreement.specs.Types.{Refusal}
use Rattle.replay_agreement.specs.Buffers.{LongEnough, Writes}

-- the texts fit, or a buffer is too short
rooms : {G : Type 0} (x : Replayed) (a b : ℕ) → (fitting_both x a b ≡ Err (Refusal.TablesShort (length x.tables)) → G) → (fitting_both x a b ≡ Err (Refusal.AnswersShort (length x.answers)) → G)
    → (fitting_both x a b ≡ Ok x → G) → G
rooms {G} x a b f g h = go (ltb a (length x.tables)) (ltb b (length x.answers)) f g h
  where
    go : (p q : Bool) → let y : Checked Replayed = refuse_if p (Refusal.TablesShort (length x.tables)) ▹ λ _. refuse_if q (Refusal.AnswersShort (length x.answers)) ▹ λ _. Ok x in
        (y ≡ Err (Refusal.TablesShort (length x.tables)) → G) → (y ≡ Err (Refusal.AnswersShort (length x.answers)) → G) → (y ≡ Ok x → G) → G
    go true q f g h = f refl
    go false true f g h = g refl
    go false false f g h = h refl

pub long_enough : (delay : ℕ) (s t o : List ℕ) (x : Replayed) (a b : ℕ) → replayed delay s t o a b ≡ fitting_both x a b → LongEnough delay s t o a b → fitting_both x a b ≡ Ok x
long_enough delay s t o x a b e l = rooms x a b (λ p. absurd (l.tables_fit _ (e ∙ p))) (λ p. absurd (l.answers_fit _ (e ∙ p))) (λ p. p)

-- rooms of the lengths needed are long enough
pub enough : (delay : ℕ) (s t o : List ℕ) (x : Replayed) (a b : ℕ) → replayed delay s t o a b ≡ fitting_both x a b → length x.tables ≤ a → length x.answers ≤ b → LongEnough delay s t o a b
enough delay s t o x a b e h k =
    let f : replayed delay s t o a b ≡ Ok x = e ∙ rw (le-ltb a (length x.tables) h, le-ltb b (length x.answers) k) refl in
    record { tables_fit = λ n p. accepts (sym f ∙ p); answers_fit = λ n p. accepts (sym f ∙ p) }

-- what the call does where nothing is refused
pub writes : (delay : ℕ) (s t o : List ℕ) (x : Replayed) (old old' : List ℕ) → replayed delay s t o (length old) (length old') ≡ Ok x → Writes delay x.tables x.answers s t o old old'
writes delay s t o x old old' e = record {
  returned = ap replay_answer e;
  tables_written = ap (λ y. written (tables_to_write y) old) e;
  answers_written = ap (λ y. written (answers_to_write y) old') e;
}
