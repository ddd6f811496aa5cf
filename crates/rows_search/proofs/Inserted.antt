-- A row stored behind the first n and rotated to its place. Assumes nothing.
use mathlib.Core.Path.{◌≡◌, refl, ap, ◌∙◌}
use mathlib.Core.List.{List, [], ◌∷◌, ◌++◌}
use Prim.Native.Nat.{ℕ, ◌+◌, ◌-◌, ◌≤◌, ◌<◌}
use native.Mathlib.Omega.{arith}
use lib.ListN.{length, take, drop, set, length-set, length-append, length-drop}
use lib.Seq.{length-take-le, take_at, drop_at, take-take, take-set-le, drop-append-le, drop-set-lt}
use borrow.Rule.Slice.PartMut.{mid_of, put_mid}
use Rattle.std.specs.List.{insert}
use Rattle.std.proofs.lemmas.List.{take_more_set}
use Rattle.std.proofs.lemmas.Slice.{between_is, take-put_mid, drop-put_mid}
use Rattle.rows.specs.declared.row.Row.{Row}

module _ (l : List Row) (n at : ℕ) (x : Row) (h : at ≤ n) (m : n < length l) where
  -- the part from `at` up to n, with the row behind it
  abbrev part : List Row
  part = mid_of at (n + 1 - at) (set l n x)

  abbrev front : List Row
  front = drop at (take n l)

  front_length : length front ≡ n - at
  front_length = length-drop at (take n l) ∙ ap (λ k. k - at) (length-take-le n l (omega arith))

  part_is : part ≡ front ++ x ∷ []
  part_is = between_is (set l n x) at (n + 1) ∙ ap (drop at) (take_more_set l n x m) ∙ drop-append-le at (take n l) (x ∷ []) (omega (arith, length-take-le n l (omega arith)))

  part_length : length part ≡ n + 1 - at
  part_length = ap length part_is ∙ length-append front (x ∷ []) ∙ ap (λ k. k + 1) front_length ∙ omega arith

  module _ (ys : List Row) (e : ys ≡ drop (length part - 1) part ++ take (length part - 1) part) where
    turned : ys ≡ x ∷ front
    turned =
        let k : length part - 1 ≡ length front = omega (arith, part_length, front_length) in
        e ∙ ap (λ j. drop j part ++ take j part) k ∙ ap (λ p. drop (length front) p ++ take (length front) p) part_is
        ∙ rw (drop_at front (x ∷ []) (length front) refl, take_at front (x ∷ []) (length front) refl) refl

    turned_length : length ys ≡ n + 1 - at
    turned_length = ap length turned ∙ omega (arith, front_length)

    pub insert_first : take (n + 1) (put_mid at (n + 1 - at) (set l n x) ys) ≡ insert (take n l) at x
    insert_first =
        take-put_mid at (n + 1 - at) (set l n x) ys (n + 1) (omega (arith, turned_length)) (omega (arith, length-set l n x))
        ∙ rw (turned, take-set-le at l n x h, take-take at n l h) refl

    pub insert_rest : drop (n + 1) (put_mid at (n + 1 - at) (set l n x) ys) ≡ drop (n + 1) l
    insert_rest = drop-put_mid at (n + 1 - at) (set l n x) ys (n + 1) (omega arith) (omega (arith, length-set l n x)) turned_length ∙ drop-set-lt (n + 1) l n x (omega arith)
