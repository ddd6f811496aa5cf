-- One pass over the rows in place: each row is asked, and stored at the next free index unless it is dropped. Its invariant: the rows
-- from i on are as they were, and what is stored, followed by what the pass makes of the rows that are left, is what it makes of all;
-- so for the answer, and for whether a row passed. Assumes nothing.
use mathlib.Core.Path.{◌≡◌, refl, sym, ◌∙◌, ap, subst}
use mathlib.Core.Bool.{Bool, true, false, cond, ◌||◌, or-false}
use mathlib.Core.List.{List, [], ◌∷◌, ◌++◌, append-nil}
use Prim.Native.Nat.{ℕ, ◌+◌, ◌≤◌, ◌<◌}
use native.Mathlib.Nat.{le_refl}
use native.Mathlib.Omega.{arith}
use lib.ListN.{length, take, drop, get_or, set, length-set}
use lib.Seq.{take-set-le, get_or-set_other}
use Rattle.basics.proofs.Arrays.{next, ended, wrote, skipped, finished}
use Rattle.std.specs.Prelude.{Option, Some, None}
use Rattle.flow_table.specs.FlowTable.{effect_of}
use Rattle.flow_table.specs.Switches.{switch_of}
use Rattle.rows.specs.Rows.{SortedRows, insert_row, any_row, on_switch, passes}
use Rattle.rows.specs.Inner.{first_for}
use Rattle.rows_step.specs.Types.{Operation, Answer, Row, Filter, Work}
use Rattle.rows_step.specs.Stepping.{step_rows, answer_rows}
use Rattle.rows_step.specs.Inner.{changed, is_dropped, treated, counted, seen, seen_rows, with_put, chosen, WorkFor}
use Rattle.rows_step.proofs.Works.{none_changed, row_changed, sorted_changed, none_pass, none_seen, nothing_passes}

-- a pass over the first n rows of l₀ that has come to row i, has stored k, and by whether a row passed and the answer so far
pub record Passing (w : Work) (l₀ : List Row) (n : ℕ) (l : List Row) (i k : ℕ) (met : Bool) (a : Answer) : Type 0 where
  pub below : k ≤ i
  pub within : i ≤ n
  pub fits : n ≤ 512
  pub size : length l ≡ length l₀
  whole : n ≤ length l₀
  left : (d : Row) (j : ℕ) → i ≤ j → get_or l j d ≡ get_or l₀ j d
  rows : take k l ++ changed w.change (chosen w) (drop i (take n l₀)) ≡ changed w.change (chosen w) (take n l₀)
  asked : (met || any_row (chosen w) (drop i (take n l₀))) ≡ any_row (chosen w) (take n l₀)
  answers : seen_rows (chosen w) a (drop i (take n l₀)) ≡ seen_rows (chosen w) w.answer (take n l₀)
  pub count : counted a ≤ i

none_asked : (p : Row → Bool) → any_row p [] ≡ false
unfolding any_row
none_asked p = refl

nothing_seen : (p : Row → Bool) (a : Answer) → seen_rows p a [] ≡ a
unfolding seen_rows
nothing_seen p a = refl

-- one row asked
asked_one : (p : Row → Bool) (met b : Bool) (x : Row) (xs : List Row) → b ≡ p x → ((met || b) || any_row p xs) ≡ (met || any_row p (x ∷ xs))
unfolding any_row
asked_one p true b x xs e = refl
asked_one p false b x xs e = ap (λ c. c || any_row p xs) e

noted_one : (p : Row → Bool) (a g : Answer) (b : Bool) (x : Row) (xs : List Row) → b ≡ p x → g ≡ cond b (seen a x.entry) a → seen_rows p g xs ≡ seen_rows p a (x ∷ xs)
unfolding seen_rows
noted_one p a g b x xs e f = ap (λ h. seen_rows p h xs) (f ∙ ap (λ c. cond c (seen a x.entry) a) e)

module _ (w : Work) (l₀ : List Row) (n : ℕ) where
  -- where nothing passes the pass starts past the last row
  pub pass_start : n ≤ length l₀ → n ≤ 512 → counted w.answer ≡ 0 → (i : ℕ) → i ≡ first_for w.filter n → Passing w l₀ n l₀ i i false w.answer
  pass_start s h c i e = subst (λ j. Passing w l₀ n l₀ j j false w.answer) (sym e) (go w.filter refl)
    where
      from_first : Passing w l₀ n l₀ 0 0 false w.answer
      from_first = record {
        below = omega arith;
        within = omega arith;
        fits = h;
        size = refl;
        whole = s;
        left = λ d j g. refl;
        rows = refl;
        asked = refl;
        answers = refl;
        count = omega arith;
      }

      past_last : any_row (chosen w) (take n l₀) ≡ false → Passing w l₀ n l₀ n n false w.answer
      past_last z = record {
        below = omega arith;
        within = omega arith;
        fits = h;
        size = refl;
        whole = s;
        left = λ d j g. refl;
        rows = rw (ended l₀ n n (le_refl n) s) (ap (λ r. take n l₀ ++ r) (none_changed (chosen w) w.change) ∙ append-nil (take n l₀) ∙ sym (none_pass (chosen w) w.change (take n l₀) z));
        asked = rw (ended l₀ n n (le_refl n) s) (none_asked (chosen w) ∙ sym z);
        answers = rw (ended l₀ n n (le_refl n) s) (nothing_seen (chosen w) w.answer ∙ sym (none_seen (chosen w) w.answer (take n l₀) z));
        count = omega arith;
      }

      go : (f : Filter) → w.filter ≡ f → Passing w l₀ n l₀ (first_for f n) (first_for f n) false w.answer
      go Filter.Nothing u = past_last (ap (λ f. any_row (on_switch w.switch (passes f)) (take n l₀)) u ∙ nothing_passes w.switch (take n l₀))
      go (Filter.Same k) u = from_first
      go (Filter.Within m) u = from_first
      go (Filter.Clash k) u = from_first
      go (Filter.Fits p) u = from_first

  -- one row more
  module _ (l : List Row) (i k : ℕ) (met : Bool) (a : Answer) (s : Passing w l₀ n l i k met a) (h : i < n) (d : Row) where
    here : get_or l i d ≡ get_or l₀ i d
    here = s.left d i (le_refl i)

    rest : List Row
    rest = drop (i + 1) (take n l₀)

    ahead : drop i (take n l₀) ≡ get_or l i d ∷ rest
    unfolding rest
    ahead = next l₀ n i d h s.whole ∙ ap (λ x. x ∷ drop (i + 1) (take n l₀)) (sym here)

    stored : (c : Bool) (y : Row) → changed w.change (chosen w) (get_or l i d ∷ rest) ≡ cond c (changed w.change (chosen w) rest) (y ∷ changed w.change (chosen w) rest)
        → take (cond c k (k + 1)) (set l k y) ++ changed w.change (chosen w) rest ≡ changed w.change (chosen w) (take n l₀)
    unfolding rest
    stored true y e =
        ap (λ z. z ++ changed w.change (chosen w) rest) (take-set-le k l k y (le_refl k))
        ∙ skipped (changed w.change (chosen w)) l₀ n i l _ k s.whole s.rows d h (rw here at e)
    stored false y e = wrote (changed w.change (chosen w)) l₀ n i l _ k s.whole s.rows d y h (omega (arith, s.below, s.size, s.whole)) (rw here at e)

    pub pass_turn : (b : Bool) → b ≡ chosen w (get_or l i d) → (y : Row) → y ≡ treated w.change b (get_or l i d) → (c : Bool) → c ≡ is_dropped w.change b
        → (k₁ : ℕ) → k₁ ≡ cond c k (k + 1) → k₁ ≤ k + 1 → (g : Answer) → g ≡ cond b (seen a (get_or l i d).entry) a → counted g ≤ counted a + 1
        → Passing w l₀ n (set l k y) (i + 1) k₁ (met || b) g
    unfolding rest
    pass_turn b e y u c v k₁ m t g f z = record {
      below = omega (arith, s.below);
      within = omega arith;
      fits = s.fits;
      size = rw length-set s.size;
      whole = s.whole;
      left = λ q j o. get_or-set_other l k j y q (λ r. omega (arith, s.below)) ∙ s.left q j (omega arith);
      rows = rw m (stored c y (row_changed (chosen w) w.change (get_or l i d) rest ∙ rw (u, v, e) refl));
      asked = asked_one (chosen w) met b (get_or l i d) rest e ∙ ap (λ r. met || any_row (chosen w) r) (sym ahead) ∙ s.asked;
      answers = noted_one (chosen w) a g b (get_or l i d) rest e f ∙ ap (seen_rows (chosen w) a) (sym ahead) ∙ s.answers;
      count = omega (arith, s.count);
    }

-- a pass that has come to the end
module _ (w : Work) (l₀ : List Row) (n : ℕ) (l : List Row) (i k : ℕ) (met : Bool) (a : Answer) (s : Passing w l₀ n l i k met a) (h : n ≤ i) where
  over : drop i (take n l₀) ≡ []
  over = ended l₀ n i h s.whole

  pub pass_rows : take k l ≡ changed w.change (chosen w) (take n l₀)
  pass_rows = finished (changed w.change (chosen w)) l₀ n i l _ k s.whole s.rows h (none_changed (chosen w) w.change)

  pub pass_met : met ≡ any_row (chosen w) (take n l₀)
  pass_met = sym (or-false met) ∙ ap (λ b. met || b) (sym (none_asked (chosen w)) ∙ ap (any_row (chosen w)) (sym over)) ∙ s.asked

  pub pass_answer : a ≡ seen_rows (chosen w) w.answer (take n l₀)
  pass_answer = sym (nothing_seen (chosen w) a) ∙ ap (seen_rows (chosen w) a) (sym over) ∙ s.answers

-- what a pass leaves, by the operation o that the work is for
module _ (o : Operation) (rs ls : List Row) {w : Work} (f : WorkFor (switch_of o) (effect_of o) w) (e : ls ≡ changed w.change (chosen w) rs) where
  pub left_sorted : SortedRows rs → SortedRows ls
  left_sorted s = rw e (sorted_changed (chosen w) w.change rs s)

  left_with : {met : Bool} {p : Option Row} → met ≡ any_row (chosen w) rs → cond met None w.put ≡ p → with_put p ls ≡ step_rows o rs
  unfolding step_rows
  left_with {met} {p} m q = rw (e, ← q, m) (sym (f.rows rs))

  pub left_met : {met : Bool} → met ≡ any_row (chosen w) rs → met ≡ true → ls ≡ step_rows o rs
  left_met {met} m t = left_with {met = met} {p = None} m (rw t refl)

  pub left_none : {met : Bool} → met ≡ any_row (chosen w) rs → met ≡ false → w.put ≡ None → ls ≡ step_rows o rs
  left_none {met} m t p = left_with {met = met} {p = None} m (rw (t, p) refl)

  pub left_put : {met : Bool} {r : Row} → met ≡ any_row (chosen w) rs → met ≡ false → w.put ≡ Some r → insert_row r ls ≡ step_rows o rs
  left_put {met} {r} m t p = left_with {met = met} {p = Some r} m (rw (t, p) refl)

pub pass_answered : (o : Operation) (rs : List Row) {w : Work} {a : Answer} → WorkFor (switch_of o) (effect_of o) w → a ≡ seen_rows (chosen w) w.answer rs → a ≡ answer_rows o rs
unfolding answer_rows
pass_answered o rs f e = e ∙ sym (f.answered rs)
