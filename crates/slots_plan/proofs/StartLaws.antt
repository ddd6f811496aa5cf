-- The starting rows as slots, row by row. Assumes nothing.
use mathlib.Core.Path.{◌≡◌, refl, sym, ap, ◌∙◌}
use mathlib.Core.Bool.{true, false, ◌||◌, cond, false≢true}
use mathlib.Core.List.{List}
use Prim.Native.Nat.{ℕ, ◌+◌, ◌≤◌, ◌<◌}
use native.Mathlib.Numerals.{add-one}
use native.Mathlib.Omega.{arith}
use lib.Dec.{eqb}
use lib.ListN.{length, take, get_or, set, length-set}
use lib.Seq.{get_or-set_same, get_or-set_other, take_all}
use borrow.Author.Tests.{eqb-true, eqb-false}
use Rattle.basics.proofs.Booleans.{split, or_cases}
use Rattle.bit_sets.specs.Inner.{member}
use Rattle.rows.specs.Rows.{same_slot, SortedRows, insert_row}
use Rattle.slots.specs.Inner.{action_at, state_rows, mark_at, Inside}
use Rattle.slots.proofs.Held.{mark_inside, held_as, held_none, held_put}
use Rattle.slots_plan.specs.Types.{Action, Row}
use Rattle.slots_plan.specs.Inner.{StartsAs}
use Rattle.slots_plan.proofs.Finding.{insert_next}

-- the set and the actions hold the first j starting rows
pub record Starting (slots start : List Row) (j : ℕ) (held : List ℕ) (actions : List Action) : Type 0 where
  pub size : length actions ≡ 512
  inside : Inside slots held
  rows : state_rows slots held actions ≡ take j start

pub starting_none : (slots start : List Row) (held : List ℕ) (actions : List Action) → length actions ≡ 512 → ((k : ℕ) → member held k ≡ false) → Starting slots start 0 held actions
starting_none slots start held actions s none = record {
  size = s;
  inside = λ i u. absurd (false≢true (sym (none i) ∙ u));
  rows = held_none (member held) _ slots (λ i l. none i);
}

module _ (slots start : List Row) (j : ℕ) (held : List ℕ) (actions : List Action) (g : Starting slots start j held actions) where
  pub starting_more : (d : Row) → SortedRows slots → SortedRows start → j < length start → (at : ℕ) → length slots ≤ 512
      → mark_at (same_slot (get_or start j d)) slots at ≡ true → {more : List ℕ} → ((k : ℕ) → member more k ≡ (eqb k at || member held k))
      → Starting slots start (j + 1) more (set actions at (get_or start j d).entry.action)
  starting_more d o p h at few mark {more} e = record {
    size = rw length-set g.size;
    inside = λ i u. or_cases (eqb i at) (member held i) (sym (e i) ∙ u) (λ v. rw (eqb-true i at v) within) (g.inside i);
    rows =
        held_as (member more) (λ i. eqb i at || member held i) (action_at (set actions at x.entry.action)) (λ i. cond (eqb i at) x.entry.action (action_at actions i)) slots
        (λ i l. e i) (λ i l u. stored i)
        ∙ sym (held_put (member held) (action_at actions) slots o x at mark)
        ∙ ap (insert_row x) g.rows ∙ insert_next start j d p h ∙ ap (λ n. take n start) (sym (add-one j));
  }
    where
      x : Row
      x = get_or start j d

      within : at < length slots
      within = mark_inside (same_slot x) slots at mark

      room : at < length actions
      room = omega (arith, within, g.size)

      stored : (i : ℕ) → action_at (set actions at x.entry.action) i ≡ cond (eqb i at) x.entry.action (action_at actions i)
      stored i = split (eqb i at)
          (λ u. rw (u, eqb-true i at u, get_or-set_same actions at x.entry.action Action.Drop room) refl)
          (λ u. rw (u, get_or-set_other actions at i x.entry.action Action.Drop (eqb-false i at u)) refl)

  pub starting_end : length start ≤ j → StartsAs slots start (record { set = held; actions = actions })
  starting_end h = record { inside = g.inside; rows = g.rows ∙ take_all j start h }
