-- The test of two answers is equality. Assumes nothing.
use mathlib.Core.Path.{◌≡◌, refl, ap, subst}
use mathlib.Core.Logic.{◌↔◌}
use mathlib.Core.Bool.{Bool, true, false, not, ◌&&◌, ◌||◌, false≢true}
use Prim.Native.Nat.{ℕ}
use lib.Dec.{eqb}
use borrow.Author.Tests.{eqb-true, eq-eqb}
use Rattle.basics.proofs.Booleans.{and_intro, and_left, and_right}
use Rattle.flow.specs.Entries.{same_action}
use Rattle.flow.proofs.Entries.{action_eq, action_self}
use Rattle.order_trials.specs.Types.{Action, Answer}
use Rattle.order_trials.specs.Same.{same_answer}

bool_eq : (p q : Bool) → ((p && q) || (not p && not q)) ≡ true → p ≡ q
bool_eq true true e = refl
bool_eq true false e = absurd (false≢true e)
bool_eq false true e = absurd (false≢true e)
bool_eq false false e = refl

bool_self : (p : Bool) → ((p && p) || (not p && not p)) ≡ true
bool_self true = refl
bool_self false = refl

hit_eq : (m i : ℕ) (x : Action) (n j : ℕ) (y : Action) → ((eqb m n && eqb i j) && same_action x y) ≡ true → Answer.Hit m i x ≡ Answer.Hit n j y
hit_eq m i x n j y e =
    let l = and_left (eqb m n && eqb i j) (same_action x y) e in
    rw (eqb-true m n (and_left (eqb m n) (eqb i j) l), eqb-true i j (and_right (eqb m n) (eqb i j) l), action_eq x y (and_right (eqb m n && eqb i j) (same_action x y) e)) refl

answer_eq : (a b : Answer) → same_answer a b ≡ true → a ≡ b
answer_eq Answer.Silent Answer.Silent e = refl
answer_eq Answer.Silent Answer.Miss e = absurd (false≢true e)
answer_eq Answer.Silent (Answer.Hit n j y) e = absurd (false≢true e)
answer_eq Answer.Silent (Answer.Done q) e = absurd (false≢true e)
answer_eq Answer.Miss Answer.Silent e = absurd (false≢true e)
answer_eq Answer.Miss Answer.Miss e = refl
answer_eq Answer.Miss (Answer.Hit n j y) e = absurd (false≢true e)
answer_eq Answer.Miss (Answer.Done q) e = absurd (false≢true e)
answer_eq (Answer.Hit m i x) Answer.Silent e = absurd (false≢true e)
answer_eq (Answer.Hit m i x) Answer.Miss e = absurd (false≢true e)
answer_eq (Answer.Hit m i x) (Answer.Hit n j y) e = hit_eq m i x n j y e
answer_eq (Answer.Hit m i x) (Answer.Done q) e = absurd (false≢true e)
answer_eq (Answer.Done p) Answer.Silent e = absurd (false≢true e)
answer_eq (Answer.Done p) Answer.Miss e = absurd (false≢true e)
answer_eq (Answer.Done p) (Answer.Hit n j y) e = absurd (false≢true e)
answer_eq (Answer.Done p) (Answer.Done q) e = ap Answer.Done (bool_eq p q e)

answer_self : (a : Answer) → same_answer a a ≡ true
answer_self Answer.Silent = refl
answer_self Answer.Miss = refl
answer_self (Answer.Hit m i x) = and_intro (and_intro (eq-eqb m m refl) (eq-eqb i i refl)) (action_self x)
answer_self (Answer.Done p) = bool_self p

pub same_answer_iff : (a b : Answer) → (same_answer a b ≡ true) ↔ (a ≡ b)
same_answer_iff a b = (answer_eq a b, λ e. subst (λ c. same_answer a c ≡ true) e (answer_self a))
