-- A text for each pair of a list, put one behind another. Assumes nothing.
use Prim.Native.Nat.{ℕ, suc, ◌+◌, ◌-◌, ◌≤◌, ◌<◌}
use native.Mathlib.Omega.{arith}
use mathlib.Core.Path.{◌≡◌, refl, sym, ap, subst, ◌∙◌}
use mathlib.Core.List.{List, [], ◌∷◌, ◌++◌, append_assoc, append-nil}
use lib.ListN.{length, get_or, take, drop, length-take, length-drop}
use lib.Seq.{take_all}
use Rattle.text_numbers.specs.Inner.{Put}
use Rattle.text_numbers.proofs.Writing.{put_then}
use Rattle.list_pairs.specs.List.{each_pair}

-- the list without its first pair, as the loop takes it apart
abbrev pub behind_pair : List ℕ → List ℕ
behind_pair left = take (length left - 2) (drop 2 left)

pub behind_length : (left : List ℕ) → 2 ≤ length left → length (behind_pair left) + 2 ≡ length left
behind_length left h = omega (arith, length-take (length left - 2) (drop 2 left), length-drop 2 left)

-- what is below a bound in the list is below it there
pub behind_inside : (left : List ℕ) (n : ℕ) → 2 ≤ length left → ((k : ℕ) → k < length left → get_or left k 0 < n) → (k : ℕ) → k < length (behind_pair left) → get_or (behind_pair left) k 0 < n
behind_inside [] n h p k l = absurd (omega arith)
behind_inside (i ∷ []) n h p k l = absurd (omega arith)
behind_inside (i ∷ j ∷ rest) n h p k l =
    let e : behind_pair (i ∷ j ∷ rest) ≡ rest = take_all (suc (suc (length rest)) - 2) rest (omega arith) in
    rw e (p (suc (suc k)) (omega (arith, ap length e)))

first_pair : (left : List ℕ) → 2 ≤ length left → left ≡ get_or left 0 0 ∷ get_or left 1 0 ∷ behind_pair left
first_pair [] h = absurd (omega arith)
first_pair (i ∷ []) h = absurd (omega arith)
first_pair (i ∷ j ∷ rest) h = ap (λ (r : List ℕ). i ∷ j ∷ r) (sym (take_all (suc (suc (length rest)) - 2) rest (omega arith)))

module _ (text : ℕ → ℕ → List ℕ) where
  no_pair : (l : List ℕ) → length l ≤ 1 → each_pair text l ≡ []
  no_pair [] h = refl
  no_pair (i ∷ []) h = refl
  no_pair (i ∷ j ∷ l) h = absurd (omega arith)

  -- the texts of the pairs before the place that the loop has come to are put; `left` is the list from there on
  module _ (list old left : List ℕ) {w : List ℕ} {at : ℕ} {out : List ℕ} (p : Put w 0 old at out) (whole : w ++ each_pair text left ≡ each_pair text list) where
    -- a turn of the loop over the pairs
    pub pairs_turn : {r : ℕ} {now : List ℕ} → 2 ≤ length left → Put (text (get_or left 0 0) (get_or left 1 0)) at out r now
        → Put (w ++ text (get_or left 0 0) (get_or left 1 0)) 0 old r now × ((w ++ text (get_or left 0 0) (get_or left 1 0)) ++ each_pair text (behind_pair left) ≡ each_pair text list)
    pairs_turn h q = (
      put_then p q,
      append_assoc w (text (get_or left 0 0) (get_or left 1 0)) (each_pair text (behind_pair left)) ∙ ap (λ (r : List ℕ). w ++ each_pair text r) (sym (first_pair left h)) ∙ whole,
    )

    pub pairs_done : length left ≤ 1 → Put (each_pair text list) 0 old at out
    pairs_done l =
        let e : w ≡ each_pair text list = sym (append-nil w) ∙ ap (λ (r : List ℕ). w ++ r) (sym (no_pair left l)) ∙ whole in
        subst (λ (t : List ℕ). Put t 0 old at out) e p
