-- An array that is written at one place. Assumes nothing.
use mathlib.Core.Path.{◌≡◌, refl, ap, ◌∙◌}
use mathlib.Core.Bool.{cond}
use mathlib.Core.List.{List, [], ◌∷◌}
use Prim.Native.Nat.{ℕ, zero, suc, ◌<◌}
use native.Mathlib.Omega.{arith}
use lib.Dec.{eqb}
use lib.ListN.{length, get_or, set}
use lib.Seq.{get_or-set_same, get_or-set_other}
use borrow.Author.Tests.{eqb-true, eqb-false}
use Rattle.basics.proofs.Booleans.{split}

pub get_d_set : {A : Type 0} (l : List A) (s i : ℕ) (v d : A) → s < length l → get_or (set l s v) i d ≡ cond (eqb i s) v (get_or l i d)
get_d_set l s i v d h =
    split (eqb i s)
    (λ u. rw u (ap (λ k. get_or (set l s v) k d) (eqb-true i s u) ∙ get_or-set_same l s v d h))
    (λ u. rw u (get_or-set_other l s i v d (eqb-false i s u)))

-- an element, whatever stands for none
pub other_default : {A : Type 0} (l : List A) (i : ℕ) (d e : A) → i < length l → get_or l i d ≡ get_or l i e
other_default [] i d e h = absurd (omega arith)
other_default (x ∷ l) zero d e h = refl
other_default (x ∷ l) (suc i) d e h = other_default l i d e (omega arith)
