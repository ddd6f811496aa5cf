-- The pass over the lines, from the last to the first, turn by turn. Assumes nothing.
use Prim.Native.Nat.{ℕ, ◌+◌, ◌<◌}
use mathlib.Core.Bool.{Bool, true, false, ◌&&◌, ◌||◌, or-true}
use mathlib.Core.List.{List}
use Rattle.std.specs.Prelude.{Option, None, Some, Ok, Err}
use mathlib.Core.Path.{◌≡◌, refl, sym, ap, ◌∙◌}
use native.Mathlib.Numerals.{add-one}
use native.Mathlib.Omega.{arith}
use borrow.Author.Tests.{leb-true, eqb-true, eqb-false, le-leb, lt-leb}
use lib.Dec.{leb, eqb}
use lib.ListN.{length}
use Rattle.basics.specs.Searches.{any_below, or_else, lowest}
use Rattle.basics.proofs.Booleans.{split, both_ways, and_left, and_right, and_intro, or_cases}
use Rattle.basics.proofs.Searches.{any_same, any_none, any_found, any_at}
use Rattle.refusals.specs.Checks.{Checked, ◌▹◌, refuse_at, refuse_if}
use Rattle.trace_events.specs.Events.{event_at}
use Rattle.trace_events.specs.Inner.{side_of, side_later}
use Rattle.trace_events.proofs.SideLaws.{side_later_lem}
use Rattle.trace_clocks.specs.Types.{Refusal, Event, Side, Earliest}
use Rattle.trace_clocks.specs.Backward.{backward, check_clocks}
use Rattle.trace_clocks.specs.Inner.{none_kept, kept_before, WithLine}
use Rattle.trace_clocks.proofs.EarliestLaws.{before_none}

-- ---- some number from i on and below n
module _ (p : ℕ → Bool) (i : ℕ) where
  from_none : false ≡ any_below (λ j. leb i j && p j) i
  from_none = any_none _ i (λ j l. rw (lt-leb i j l))

  from_more : (n : ℕ) → i < n → any_below (λ j. leb i j && p j) n ≡ (any_below (λ j. leb (i + 1) j && p j) n || p i)
  from_more n l = both_ways _ _ from back
    where
      from : any_below (λ j. leb i j && p j) n ≡ true → (any_below (λ j. leb (i + 1) j && p j) n || p i) ≡ true
      from e =
          let (j, m, h) = any_found _ n e in
          let a = leb-true i j (and_left (leb i j) (p j) h) in
          let b = and_right (leb i j) (p j) h in
          split (eqb i j)
          (λ f. rw (ap p (eqb-true i j f) ∙ b) (or-true (any_below (λ j. leb (i + 1) j && p j) n)))
          (λ f. let d = eqb-false i j f in rw (any_at (λ j. leb (i + 1) j && p j) n j m (and_intro (le-leb (i + 1) j (omega arith)) b)) refl)

      back : (any_below (λ j. leb (i + 1) j && p j) n || p i) ≡ true → any_below (λ j. leb i j && p j) n ≡ true
      back e = or_cases (any_below (λ j. leb (i + 1) j && p j) n) (p i) e
          (λ f. let (j, m, h) = any_found _ n f in
          let a = leb-true (i + 1) j (and_left (leb (i + 1) j) (p j) h) in
          any_at _ n j m (and_intro (le-leb i j (omega arith)) (and_right (leb (i + 1) j) (p j) h)))
          (λ f. any_at _ n i l (and_intro (le-leb i i (omega arith)) f))

-- ---- what is kept of the lines from i on
-- line j, as a quick look tells
abbrev pub side_at : List Event → ℕ → Side
side_at es j = side_of (event_at es j).head (event_at es j).operation

pub record Kept (delay : ℕ) (es : List Event) (i : ℕ) (kept : Earliest) : Type 0 where
  pub before : (b : Side) → b.from < 4294967296 → kept_before delay kept b ≡ any_below (λ j. leb i j && side_later delay (side_at es j) b) (length es)

module _ (delay : ℕ) (es : List Event) where
  pub kept_none : {i : ℕ} {kept : Earliest} → i ≡ length es → kept ≡ none_kept → Kept delay es i kept
  kept_none l e = record { before = λ b h. rw (l, e) (before_none delay b h ∙ from_none (λ j. side_later delay (side_at es j) b) (length es)) }

  module _ (i : ℕ) (inside : i < length es) {kept : Earliest} {a : Side} (e : a ≡ side_at es i) (k : Kept delay es (i + 1) kept) where
    pub kept_more : {more : Earliest} → WithLine kept a more → Kept delay es i more
    kept_more w = record {
      before = λ b h.
          w.before delay b ∙ rw (e, k.before b h) (sym (from_more (λ j. side_later delay (side_at es j) b) i (length es) inside));
    }

    -- the test of line i
    pub kept_test : a.from < 4294967296 → {r : Bool} → r ≡ kept_before delay kept a → r ≡ backward delay es i
    unfolding backward
    kept_test h f = f ∙ k.before a h ∙ rw e (any_same _ _ (length es) (λ j l. rw (add-one i, side_later_lem delay (event_at es j) (event_at es i)) refl))

-- ---- the lowest line: the last that the pass comes to
-- the outcome of the lines from i on, and what the lines before i say first
pub record Passed (p : ℕ → Bool) (n i : ℕ) (outcome : Checked (Unit {0})) : Type 0 where
  pub whole : refuse_at (lowest p n) Refusal.TimeBackward ≡ (refuse_at (lowest p i) Refusal.TimeBackward ▹ λ _. outcome)

first_alone : (x : Option ℕ) → refuse_at x Refusal.TimeBackward ≡ (refuse_at x Refusal.TimeBackward ▹ λ _. Ok tt)
first_alone None = refl
first_alone (Some j) = refl

first_else : (x : Option ℕ) (b : Bool) (i : ℕ) (o : Checked (Unit {0}))
    → (refuse_at (or_else x b i) Refusal.TimeBackward ▹ λ _. o) ≡ (refuse_at x Refusal.TimeBackward ▹ λ _. refuse_if b (Refusal.TimeBackward i) ▹ λ _. o)
first_else (Some j) b i o = refl
first_else None true i o = refl
first_else None false i o = refl

module _ (p : ℕ → Bool) (n : ℕ) where
  pub passed_none : {i : ℕ} → i ≡ n → Passed p n i (Ok tt)
  passed_none l = record { whole = rw l (first_alone (lowest p n)) }

  module _ (i : ℕ) {o : Checked (Unit {0})} (w : Passed p n (i + 1) o) where
    pub passed_here : p i ≡ true → Passed p n i (Err (Refusal.TimeBackward i))
    unfolding lowest
    passed_here e = record { whole = (rw (add-one i) at w.whole) ∙ first_else (lowest p i) (p i) i o ∙ rw e refl }

    pub passed_on : p i ≡ false → Passed p n i o
    unfolding lowest
    passed_on e = record { whole = (rw (add-one i) at w.whole) ∙ first_else (lowest p i) (p i) i o ∙ rw e refl }

-- 55
pub clocks_checked : (delay : ℕ) (es : List Event) {o : Checked (Unit {0})} → Passed (backward delay es) (length es) 0 o → (o ▹ λ _. Ok es) ≡ check_clocks delay es
unfolding check_clocks lowest
clocks_checked delay es w = ap (λ (o : Checked (Unit {0})). o ▹ λ _. Ok es) (sym w.whole)
