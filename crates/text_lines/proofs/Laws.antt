-- Laws of the loops over a text.
use Prim.Native.Nat.{ℕ, zero, suc, ◌+◌, ◌-◌, ◌≤◌, ◌<◌}
use mathlib.Core.Bool.{Bool, true, false, cond}
use mathlib.Core.List.{List, [], ◌∷◌}
use mathlib.Core.Path.{◌≡◌, refl, ap, ◌∙◌}
use native.Mathlib.Nat.{add-zero}
use native.Mathlib.Numerals.{add-one}
use native.Mathlib.Omega.{arith}
use borrow.Author.Tests.{eq-eqb, ne_eqb}
use lib.Dec.{eqb}
use lib.ListN.{length, get_or, take, drop, drop_of_length-le, length-append, length-drop}
use Rattle.std.specs.List.{AllWithin, HoldsAt, count_by}
use Rattle.std.proofs.Common.{Option}
use Rattle.std.specs.Option.{MatchOption, unwrap_or}
use Rattle.std.proofs.lemmas.List.Recursion.{is_count_by}
use Rattle.std.proofs.lemmas.Iterator.{index_from_first}
use lib.Seq.{drop-cons, drop-drop, take-nil, length-take-le}
use Rattle.text_lines.specs.Lines.{lines, unlines, line_start}
use Rattle.text_lines.specs.Inner.{line_length, first_line, newlines}
use Rattle.text_lines.proofs.Lines.{lines_cons}

-- ---- the definitions as std's words
module _ (b : ℕ) (s : List ℕ) where
  pub length_here : b ≡ 10 → line_length (b ∷ s) ≡ 0
  unfolding line_length
  length_here e = rw (eq-eqb _ _ e)

  pub length_on : (b ≡ 10 → ⊥) → line_length (b ∷ s) ≡ line_length s + 1
  unfolding line_length
  length_on e = rw (ne_eqb _ _ e)

-- the length of the first line is the place of the first LF that a search found
pub length_found : (s : List ℕ) (r : Option ℕ) → MatchOption r (AllWithin (λ b. b ≡ 10 → ⊥) s 0 (length s)) (λ i. (i < length s) × HoldsAt (λ b. b ≡ 10) s i × AllWithin (λ b. b ≡ 10 → ⊥) s 0 i)
    → line_length s ≡ unwrap_or r (length s)
unfolding line_length
length_found = index_from_first line_length (λ b. b ≡ 10) (λ b. b ≡ 10 → ⊥) refl length_here length_on

pub newlines_count : (s : List ℕ) → newlines s ≡ count_by (λ b. eqb b 10) s
unfolding newlines
newlines_count = is_count_by newlines (λ b. eqb b 10) refl (λ b s. either (eqb b 10) (newlines s))
  where
    either : (t : Bool) (n : ℕ) → cond t (n + 1) n ≡ cond t (1 + n) n
    either true n = omega arith
    either false n = refl

-- the count of LF, with n of them before the place i
module _ (s : List ℕ) (i n : ℕ) where
  pub count_end : length s ≤ i → n + newlines (drop i s) ≡ n
  unfolding newlines
  count_end h = rw (drop_of_length-le s, add-zero)

  module _ (h : i < length s) where
    pub count_here : get_or s i 0 ≡ 10 → n + newlines (drop i s) ≡ n + 1 + newlines (drop (i + 1) s)
    unfolding newlines
    count_here e = rw (drop-cons s i 0, eq-eqb _ _ e, add-one i) (omega arith)

    pub count_on : (get_or s i 0 ≡ 10 → ⊥) → n + newlines (drop i s) ≡ n + newlines (drop (i + 1) s)
    unfolding newlines
    count_on e = rw (drop-cons s i 0, ne_eqb _ _ e, add-one i)

-- the first line lies within the text
pub line_within : (s : List ℕ) → line_length s ≤ length s
unfolding line_length
line_within [] = omega arith
line_within (b ∷ s) = either (eqb b 10) (line_within s)
  where
    either : (t : Bool) → line_length s ≤ length s → cond t 0 (line_length s + 1) ≤ suc (length s)
    either true h = omega arith
    either false h = omega arith

-- ---- where the line of the number k starts
start_first : (s : List ℕ) → line_start s 0 ≡ 0
unfolding line_start unlines
start_first s = refl

start_empty : (k : ℕ) → line_start [] k ≡ 0
unfolding line_start unlines lines
start_empty k = rw take-nil

-- the lines after the first start so much later than in the text without it
start_later : (s : List ℕ) (k : ℕ) → 0 < length s → line_start s (suc k) ≡ line_length s + 1 + line_start (drop (line_length s + 1) s) k
unfolding line_start unlines
start_later s k h =
    rw (lines_cons s h, length-append, length-take-le (line_length s) s (line_within s)) (omega arith)

-- from the place `at` on: nothing is left, the line is reached, or it stands behind the line of n bytes that is there
pub start_none : (s : List ℕ) (at k : ℕ) → length s ≤ at → at + line_start (drop at s) k ≡ at
start_none s at k h = rw (drop_of_length-le s, start_empty k, add-zero)

pub start_here : (s : List ℕ) (at k i : ℕ) → k ≤ i → at + line_start (drop at s) (k - i) ≡ at
start_here s at k i l =
    let c : k - i ≡ 0 = omega arith in
    rw (c, start_first (drop at s), add-zero)

module _ (s : List ℕ) (at n : ℕ) (rest : List ℕ) (h : at < length s) (r : rest ≡ drop at s) (e : n ≡ line_length rest) where
  pub start_room : at + n ≤ length s
  start_room = omega (arith, e, line_within rest, ap length r, length-drop at s)

  pub start_next : (k i : ℕ) → i < k → at + line_start (drop at s) (k - i) ≡ at + n + 1 + line_start (drop (at + n + 1) s) (k - (i + 1))
  start_next k i l =
      let c : k - i ≡ suc (k - (i + 1)) = omega arith in
      let f : n ≡ line_length (drop at s) = e ∙ ap line_length r in
      let g : at + (n + 1) ≡ at + n + 1 = omega arith in
      rw (c, start_later (drop at s) (k - (i + 1)) (omega (arith, length-drop at s)), drop-drop, ← f, g) (omega arith)

-- ---- the line of a number stands where it starts
pub line_found : (k : ℕ) (s : List ℕ) → first_line (drop (line_start s k) s) ≡ get_or (lines s) k []
unfolding first_line lines
line_found zero [] = rw (start_empty 0, take-nil)
line_found zero (b ∷ s) = rw (start_first (b ∷ s), lines_cons (b ∷ s) (omega arith))
line_found (suc k) [] = rw (start_empty (suc k), take-nil)
line_found (suc k) (b ∷ s) =
    let n = line_length (b ∷ s) + 1 in
    rw (start_later (b ∷ s) k (omega arith), ← drop-drop (line_start (drop n (b ∷ s)) k) n (b ∷ s), lines_cons (b ∷ s) (omega arith)) (line_found k (drop n (b ∷ s)))

-- so many bytes from there on are the line
pub line_part : (s : List ℕ) (k : ℕ) → take (length (get_or (lines s) k [])) (drop (line_start s k) s) ≡ get_or (lines s) k []
unfolding first_line
line_part s k =
    let t = drop (line_start s k) s in
    rw (← line_found k s, length-take-le (line_length t) t (line_within t))

-- ---- from line to line
-- the next line starts past the first line of what is left there
pub start_after : (k : ℕ) (s : List ℕ) → line_start s (k + 1) ≡ line_start s k + line_start (drop (line_start s k) s) 1
start_after zero s = rw (start_first s) (omega arith)
start_after (suc k) [] = rw (start_empty (suc k + 1), start_empty (suc k), start_empty 1) (omega arith)
start_after (suc k) (b ∷ s) =
    let n = line_length (b ∷ s) + 1 in
    let u = drop n (b ∷ s) in
    rw (add-one (suc k), start_later (b ∷ s) (suc k) (omega arith), start_later (b ∷ s) k (omega arith), ← drop-drop (line_start u k) n (b ∷ s))
    (omega (arith, rw (add-one k) at (start_after k u)))

-- there is a line of that number exactly if it starts within the text
pub start_inside : (k : ℕ) (s : List ℕ) → k < length (lines s) → line_start s k < length s
unfolding lines
start_inside zero [] h = absurd (omega arith)
start_inside zero (b ∷ s) h = rw (start_first (b ∷ s)) (omega arith)
start_inside (suc k) [] h = absurd (omega arith)
start_inside (suc k) (b ∷ s) h =
    let n = line_length (b ∷ s) + 1 in
    let later : k < length (lines (drop n (b ∷ s))) = omega (arith, ap length (lines_cons (b ∷ s) (omega arith))) in
    rw (start_later (b ∷ s) k (omega arith)) (omega (arith, start_inside k (drop n (b ∷ s)) later, length-drop n (b ∷ s)))

pub inside_start : (k : ℕ) (s : List ℕ) → line_start s k < length s → k < length (lines s)
inside_start zero [] h = absurd (omega arith)
inside_start zero (b ∷ s) h = omega (arith, ap length (lines_cons (b ∷ s) (omega arith)))
inside_start (suc k) [] h = absurd (omega arith)
inside_start (suc k) (b ∷ s) h =
    let n = line_length (b ∷ s) + 1 in
    let at : line_start (drop n (b ∷ s)) k < length (drop n (b ∷ s)) = omega (arith, start_later (b ∷ s) k (omega arith), length-drop n (b ∷ s)) in
    omega (arith, ap length (lines_cons (b ∷ s) (omega arith)), inside_start k (drop n (b ∷ s)) at)

-- a line is what stands from its start to before the LF that the next one starts behind
module _ (k : ℕ) (s : List ℕ) (h : k < length (lines s)) where
  starts_on : line_start s (k + 1) ≡ line_start s k + (line_length (drop (line_start s k) s) + 1)
  starts_on =
      let t = drop (line_start s k) s in
      let some : 0 < length t = omega (arith, start_inside k s h, length-drop (line_start s k) s) in
      let first : line_start t 1 ≡ line_length t + 1 = start_later t 0 some ∙ rw (start_first (drop (line_length t + 1) t), add-zero) in
      start_after k s ∙ ap (λ (m : ℕ). line_start s k + m) first

  pub start_rises : line_start s k < line_start s (k + 1)
  start_rises = omega (arith, starts_on)

  pub line_bytes : take (line_start s (k + 1) - line_start s k - 1) (drop (line_start s k) s) ≡ get_or (lines s) k []
  unfolding first_line
  line_bytes =
      let long : line_start s (k + 1) - line_start s k - 1 ≡ line_length (drop (line_start s k) s) = omega (arith, starts_on) in
      rw long (line_found k s)
