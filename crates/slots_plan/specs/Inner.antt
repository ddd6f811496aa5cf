-- Inner: what is worked out of a trace and its starting rows: the slots, the sets of those that events ask about, plans, priorities.
use Rattle.std.specs.Prelude.{◌≡◌, true, Option, Some, List, [], ℕ, ◌<◌, length, get_or}
use Rattle.flow_table.specs.FlowTable.{effect_of}
use Rattle.flow_table.specs.Switches.{switch_of}
use Rattle.rows.specs.Rows.{same_slot, SortedRows, any_row}
use Rattle.rows_step.specs.Inner.{chosen, work_of}
use Rattle.order_rows.specs.Runs.{operation_at}
use Rattle.slots.specs.Inner.{state_rows, Marks, Inside, PutPlanned, begins, idle, SlotsOf}
use Rattle.slots_plan.specs.Types.{Answer, Event, Row, Work, Reply, Plan, Steps, State}

-- the work of event e
abbrev pub work_at : List Event → ℕ → Work
work_at es e = work_of (switch_of (operation_at es e)) (effect_of (operation_at es e))

-- ---- the slots: in order, one for each starting row and for each row that an event may put in
-- the row that is put in has a slot
abbrev pub SlotFound : Option Row → List Row → Type 0
SlotFound put slots = (x : Row) → put ≡ Some x → any_row (same_slot x) slots ≡ true

abbrev pub PutsFound : List Event → List Row → Type 0
PutsFound es slots = (e : ℕ) → e < 256 → SlotFound (work_at es e).put slots

abbrev pub StartFound : List Row → List Row → Type 0
StartFound start slots = (j : ℕ) (d : Row) → j < length start → any_row (same_slot (get_or start j d)) slots ≡ true

pub record HasSlots (es : List Event) (start slots : List Row) : Type 0 where
  pub sorted : SortedRows slots
  pub starting : StartFound start slots
  pub puts : PutsFound es slots

-- the sets of the slots that events ask about
abbrev pub Marked : List Event → List Row → List (List ℕ) → Type 0
Marked es slots masks = (e : ℕ) → e < 256 → Marks (chosen (work_at es e)) slots (get_or masks e [])

-- the priorities
abbrev pub Ranked : List Row → List ℕ → Type 0
Ranked slots priorities = (i : ℕ) (d : Row) → i < length slots → get_or priorities i 0 ≡ (get_or slots i d).entry.key.priority

-- ---- a work as a plan
-- what is answered, by the answer to begin with
abbrev pub reply_of : Answer → Reply
reply_of Answer.Silent = Reply.Silent
reply_of Answer.Miss = Reply.Best
reply_of (Answer.Hit n count a) = Reply.Done
reply_of (Answer.Done b) = Reply.Done

-- the plan of a work
pub record PlanFor (slots : List Row) (w : Work) (plan : Plan) : Type 0 where
  pub change : plan.change ≡ w.change
  pub put : PutPlanned slots w.put plan.put
  pub answer : w.answer ≡ begins plan.reply

abbrev pub Planned : List Event → List Row → List Plan → Type 0
Planned es slots plans = (e : ℕ) → e < 256 → PlanFor slots (work_at es e) (get_or plans e idle)

-- ---- the starting rows as slots
pub record StartsAs (slots start : List Row) (s : State) : Type 0 where
  pub inside : Inside slots s.set
  pub rows : state_rows slots s.set s.actions ≡ start

-- ---- all of it
pub record Prepares (es : List Event) (start : List Row) (steps : Steps) (s : State) : Type 0 where
  pub slots : List Row
  pub slots_of : SlotsOf es slots steps
  pub inside : Inside slots s.set
  pub rows : state_rows slots s.set s.actions ≡ start
