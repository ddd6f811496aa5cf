-- Two ends have the same rows just if they hold the same slots, with the same actions. Assumes nothing.
use mathlib.Core.Path.{◌≡◌, sym, ◌∙◌}
use mathlib.Core.Bool.{true}
use mathlib.Core.List.{List}
use Prim.Native.Nat.{ℕ, ◌<◌}
use lib.ListN.{length}
use Rattle.basics.proofs.Booleans.{both_ways}
use Rattle.bit_sets.specs.Inner.{member}
use Rattle.rows.specs.Rows.{SortedRows}
use Rattle.slots.specs.Inner.{action_at, Inside}
use Rattle.slots.proofs.Held.{held_as, held_same}
use Rattle.slots_run.specs.Types.{Row, Ended}
use Rattle.slots_run.specs.Inner.{rows_in}

module _ (slots : List Row) (sorted : SortedRows slots) (a b : Ended) (in-a : Inside slots a.state.set) (in_b : Inside slots b.state.set) where
  at_slot : rows_in slots a.state ≡ rows_in slots b.state → (i : ℕ) → i < length slots → (member a.state.set i ≡ member b.state.set i) × (member a.state.set i ≡ true → action_at a.state.actions i ≡ action_at b.state.actions i)
  at_slot e = held_same (member a.state.set) (member b.state.set) (action_at a.state.actions) (action_at b.state.actions) slots sorted e

  pub rows_sets : rows_in slots a.state ≡ rows_in slots b.state → (i : ℕ) → member a.state.set i ≡ member b.state.set i
  rows_sets e i = both_ways (member a.state.set i) (member b.state.set i) (λ h. sym (at_slot e i (in-a i h)).0 ∙ h) (λ h. (at_slot e i (in_b i h)).0 ∙ h)

  pub rows_actions : rows_in slots a.state ≡ rows_in slots b.state → (i : ℕ) → member a.state.set i ≡ true → action_at a.state.actions i ≡ action_at b.state.actions i
  rows_actions e i h = (at_slot e i (in-a i h)).1 h

  pub same_rows : ((i : ℕ) → member a.state.set i ≡ member b.state.set i) → ((i : ℕ) → member a.state.set i ≡ true → action_at a.state.actions i ≡ action_at b.state.actions i) → rows_in slots a.state ≡ rows_in slots b.state
  same_rows f g = held_as (member a.state.set) (member b.state.set) (action_at a.state.actions) (action_at b.state.actions) slots (λ i l. f i) (λ i l. g i)
