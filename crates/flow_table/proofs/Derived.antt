-- The derived equality of answers is equality. Assumes nothing.
use mathlib.Core.Path.{◌≡◌, refl, sym, ◌∙◌, subst}
use mathlib.Core.Logic.{◌↔◌}
use mathlib.Core.Bool.{true, false, ◌&&◌}
use Prim.Native.Nat.{ℕ}
use lib.Dec.{eqb}
use borrow.Author.Tests.{eqb-true, eq-eqb}
use Rattle.basics.proofs.Booleans.{and_intro, and_left, and_right}
use Rattle.flow.specs.Derived.{action_equal}
use Rattle.flow.proofs.Derived.{action_same}
use Rattle.flow.proofs.Entries.{action_eq, action_self}
use Rattle.flow_table.specs.Types.{Action, Answer}
use Rattle.flow_table.specs.Derived.{answer_equal}

hit_eq : (m i : ℕ) (x : Action) (n j : ℕ) (y : Action) → (eqb m n && (eqb i j && action_equal x y)) ≡ true → Answer.Hit m i x ≡ Answer.Hit n j y
hit_eq m i x n j y e =
    let r = and_right (eqb m n) (eqb i j && action_equal x y) e in
    let a : x ≡ y = action_eq x y (sym (action_same x y) ∙ and_right (eqb i j) (action_equal x y) r) in
    rw (eqb-true m n (and_left (eqb m n) (eqb i j && action_equal x y) e), eqb-true i j (and_left (eqb i j) (action_equal x y) r), a) refl

answer_eq : (a b : Answer) → answer_equal a b ≡ true → a ≡ b
answer_eq Answer.Silent Answer.Silent e = refl
answer_eq Answer.Silent Answer.Miss e = absurd (cc)
answer_eq Answer.Silent (Answer.Hit n j y) e = absurd (cc)
answer_eq Answer.Silent (Answer.Done q) e = absurd (cc)
answer_eq Answer.Miss Answer.Silent e = absurd (cc)
answer_eq Answer.Miss Answer.Miss e = refl
answer_eq Answer.Miss (Answer.Hit n j y) e = absurd (cc)
answer_eq Answer.Miss (Answer.Done q) e = absurd (cc)
answer_eq (Answer.Hit m i x) Answer.Silent e = absurd (cc)
answer_eq (Answer.Hit m i x) Answer.Miss e = absurd (cc)
answer_eq (Answer.Hit m i x) (Answer.Hit n j y) e = hit_eq m i x n j y e
answer_eq (Answer.Hit m i x) (Answer.Done q) e = absurd (cc)
answer_eq (Answer.Done p) Answer.Silent e = absurd (cc)
answer_eq (Answer.Done p) Answer.Miss e = absurd (cc)
answer_eq (Answer.Done p) (Answer.Hit n j y) e = absurd (cc)
answer_eq (Answer.Done true) (Answer.Done true) e = refl
answer_eq (Answer.Done true) (Answer.Done false) e = absurd (cc)
answer_eq (Answer.Done false) (Answer.Done true) e = absurd (cc)
answer_eq (Answer.Done false) (Answer.Done false) e = refl

answer_self : (a : Answer) → answer_equal a a ≡ true
answer_self Answer.Silent = refl
answer_self Answer.Miss = refl
answer_self (Answer.Hit m i x) = and_intro (eq-eqb m m refl) (and_intro (eq-eqb i i refl) (action_same x x ∙ action_self x))
answer_self (Answer.Done true) = refl
answer_self (Answer.Done false) = refl

pub answer_iff : (a b : Answer) → (answer_equal a b ≡ true) ↔ (a ≡ b)
answer_iff a b = (answer_eq a b, λ e. subst (λ c. answer_equal a c ≡ true) e (answer_self a))
