-- Laws of Booleans that the other files cite. Assumes nothing.
use mathlib.Core.Path.{◌≡◌, refl, sym, ◌∙◌}
use mathlib.Core.Bool.{Bool, true, false, ◌&&◌, ◌||◌, not, cond, false≢true, true≢false}
use borrow.Author.Tests.{not-true, not-false}

-- by cases, with the equation
pub split : {G : Type 0} (b : Bool) → (b ≡ true → G) → (b ≡ false → G) → G
split true f g = f refl
split false f g = g refl

-- equal if each is true where the other is
pub both_ways : (x y : Bool) → (x ≡ true → y ≡ true) → (y ≡ true → x ≡ true) → x ≡ y
both_ways true y f g = sym (f refl)
both_ways false true f g = g refl
both_ways false false f g = refl

pub and_intro : {p q : Bool} → p ≡ true → q ≡ true → (p && q) ≡ true
and_intro {p} {q} e f = rw e f

pub and_left : (p q : Bool) → (p && q) ≡ true → p ≡ true
and_left true q e = refl
and_left false q e = e

pub and_right : (p q : Bool) → (p && q) ≡ true → q ≡ true
and_right true q e = e
and_right false q e = absurd (false≢true e)

pub and_cases : {G : Type 0} (p q : Bool) → (p && q) ≡ false → (p ≡ false → G) → (q ≡ false → G) → G
and_cases true q e f g = g e
and_cases false q e f g = f refl

pub and_false_right : (p : Bool) {q : Bool} → q ≡ false → (p && q) ≡ false
and_false_right true e = e
and_false_right false e = refl

pub and_absorb : (p q : Bool) → (p ≡ true → q ≡ true) → p ≡ (p && q)
and_absorb true q h = sym (h refl)
and_absorb false q h = refl

pub and_absorb_right : (p q : Bool) → (q ≡ true → p ≡ true) → q ≡ (p && q)
and_absorb_right true q h = refl
and_absorb_right false true h = sym (h refl)
and_absorb_right false false h = refl

pub and_assoc : (p q r : Bool) → ((p && q) && r) ≡ (p && (q && r))
and_assoc true q r = refl
and_assoc false q r = refl

pub and-true : (p : Bool) → (p && true) ≡ p
and-true true = refl
and-true false = refl

pub and_swap : (a b c d : Bool) → ((a && b) && (c && d)) ≡ ((a && c) && (b && d))
and_swap true true c d = refl
and_swap true false true d = refl
and_swap true false false d = refl
and_swap false b c d = refl

pub or_left : (x y : Bool) → (x || y) ≡ false → x ≡ false
or_left true y e = absurd (true≢false e)
or_left false y e = refl

pub or_right : (x y : Bool) → (x || y) ≡ false → y ≡ false
or_right true y e = absurd (true≢false e)
or_right false y e = e

pub or_cases : {G : Type 0} (x y : Bool) → (x || y) ≡ true → (x ≡ true → G) → (y ≡ true → G) → G
or_cases true y e f g = f refl
or_cases false y e f g = g e

-- the same either way
pub cond_idle : {A : Type 0} (b : Bool) (x : A) → x ≡ cond b x x
cond_idle true x = refl
cond_idle false x = refl

pub cond_same {ℓ} : {A : Type ℓ} (p : Bool) (x y z : A) → cond p x (cond p y z) ≡ cond p x z
cond_same true x y z = refl
cond_same false x y z = refl

pub cond_swap {ℓ} : {A : Type ℓ} (p q : Bool) (x y z : A) → (p ≡ true → q ≡ true → ⊥) → cond p x (cond q y z) ≡ cond q y (cond p x z)
cond_swap true true x y z h = absurd (h refl refl)
cond_swap true false x y z h = refl
cond_swap false true x y z h = refl
cond_swap false false x y z h = refl

-- a test p is known by the result r of the code's test
pub was : {r p b : Bool} → r ≡ p → r ≡ b → p ≡ b
was e t = sym e ∙ t

pub was_false : {r p : Bool} → r ≡ p → not r ≡ true → p ≡ false
was_false {r} e t = was e (not-true r t)

pub was_true : {r p : Bool} → r ≡ p → not r ≡ false → p ≡ true
was_true {r} e t = was e (not-false r t)
