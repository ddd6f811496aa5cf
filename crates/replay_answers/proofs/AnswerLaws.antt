-- The answer lines: how long they are, one line more, and a line written into the rest of a buffer. Assumes nothing.
use mathlib.Core.Path.{◌≡◌, refl, sym, ap, ◌∙◌}
use mathlib.Core.Bool.{Bool, true, false, cond}
use mathlib.Core.List.{List, [], ◌∷◌, ◌++◌, append-nil}
use Prim.Native.Nat.{ℕ, zero, suc, ◌+◌, ◌*◌, ◌-◌, ◌≤◌, ◌<◌}
use native.Mathlib.Decide.{ℕ_discrete}
use native.Mathlib.Nat.{add-zero, add-suc, suc-add, zero-add}
use native.Mathlib.Numerals.{add-one}
use native.Mathlib.Omega.{arith}
use lib.ListN.{length, get_or, set, replicate, take, drop, length-append, length-take, length-drop, take-append-drop, drop_of_length-le}
use lib.Seq.{get_or-take, sets, take_all, length-take-le}
use Rattle.std.proofs.lemmas.List.{get_or_default}
use Rattle.basics.specs.Text.{bytes}
use Rattle.text_numbers.specs.Print.{print_number}
use Rattle.text_numbers.specs.Inner.{Put}
use Rattle.text_numbers.proofs.Writing.{print_length, put_then}
use Rattle.text_put_fields.proofs.Lengths.{action_length}
use Rattle.replay_answers.specs.Types.{Answer, Kept}
use Rattle.replay_answers.specs.Answers.{print_item, is_silent, print_answer, answers_text}
use Rattle.replay_answers.specs.Inner.{no_answer, kept_at}

-- no answers yet
pub none_kept_lem : (n i : ℕ) → kept_at (replicate n no_answer) i ≡ Answer.Silent
none_kept_lem zero i = refl
none_kept_lem (suc n) zero = refl
none_kept_lem (suc n) (suc i) = none_kept_lem n i

-- an answer among the first n
pub kept_front : (ks : List Kept) (n i : ℕ) (d : Kept) → i < length (take n ks) → (get_or (take n ks) i d).answer ≡ kept_at ks i
kept_front ks n i d h = ap (λ (k : Kept). k.answer) (get_or_default (take n ks) i d no_answer h ∙ get_or-take n ks i no_answer (omega (arith, length-take n ks)))

-- ---- how long
pub item_length : (a : Answer) → length (print_item a) ≤ 68
unfolding print_item
item_length Answer.Silent = omega arith
item_length Answer.Miss = omega arith
item_length (Answer.Hit priority count a) = simp length-append (omega (arith, print_length priority, print_length count, action_length a))
item_length (Answer.Done true) = omega arith
item_length (Answer.Done false) = omega arith

pub answer_length : (i : ℕ) (a : Answer) → length (print_answer i a) ≤ 92
unfolding print_answer
answer_length i a = go (is_silent a)
  where
    go : (b : Bool) → length (cond b [] (bytes "ev=" ++ (print_number i ++ (print_item a ++ bytes "\n")))) ≤ 92
    go true = omega arith
    go false = simp length-append (omega (arith, print_length i, item_length a))

module _ (f : ℕ → Answer) where
  pub text_length : (n : ℕ) → length (answers_text f n) ≤ 92 * n
  unfolding answers_text
  text_length zero = omega arith
  text_length (suc n) = simp length-append (omega (arith, text_length n, answer_length n (f n)))

  -- one line more
  text_more : (n : ℕ) → answers_text f (n + 1) ≡ answers_text f n ++ print_answer n (f n)
  unfolding answers_text
  text_more n = rw add-one refl

  -- fewer lines are not longer
  pub text_rises : (i n : ℕ) → i ≤ n → length (answers_text f i) ≤ length (answers_text f n)
  unfolding answers_text
  text_rises i zero l = let e : i ≡ 0 = omega arith in rw e (omega arith)
  text_rises i (suc n) l =
      elim (ℕ_discrete i (suc n)) [
        | yes e ↦ rw e (omega arith)
        | no d ↦ simp length-append (omega (arith, text_rises i n (omega arith)))
      ]

  module _ (i at next : ℕ) where
    -- a line more, counted or put
    pub counted : {a : Answer} → a ≡ f i → at ≡ length (answers_text f i) → next ≡ at + length (print_answer i a) → next ≡ length (answers_text f (i + 1))
    counted q e h = h ∙ rw (q, e, text_more i, length-append) refl

    pub line_put : {a : Answer} {xs ys zs : List ℕ} → a ≡ f i → Put (answers_text f i) 0 xs at ys → Put (print_answer i a) at ys next zs → Put (answers_text f (i + 1)) 0 xs next zs
    line_put q p r = rw (text_more i, ← q) (put_then p r)

-- the line of an answer that is not silent
pub line_of_lem : (i : ℕ) (a : Answer) → is_silent a ≡ false → print_answer i a ≡ (bytes "ev=") ++ (print_number i ++ (print_item a ++ bytes "\n"))
unfolding print_answer
line_of_lem i a e = rw e refl

pub no_line : (i : ℕ) (a : Answer) → is_silent a ≡ true → print_answer i a ≡ []
unfolding print_answer
no_line i a e = rw e refl
