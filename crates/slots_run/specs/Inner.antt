-- Inner: what an event and an order do to slots.
use Rattle.std.specs.Prelude.{◌≡◌, ◌↔◌, Bool, true, not, ◌&&◌, List, ℕ, ◌≤◌, ◌<◌, length, get_or}
use Rattle.bit_sets.specs.Inner.{member}
use Rattle.rows.specs.Rows.{SortedRows}
use Rattle.rows_step.specs.Inner.{chosen, seen_rows}
use Rattle.rows_step.specs.Stepping.{step_rows, answer_rows}
use Rattle.replay_answers.specs.Inner.{kept_at}
use Rattle.order_rows.specs.Inner.{run_rows, answers_in}
use Rattle.slots.specs.Inner.{action_at, state_rows, Marks, Inside, StepFor}
use Rattle.slots_run.specs.Types.{Action, Answer, Operation, Event, Row, Work, Reply, Plan, State, Stepped, Ended}

-- ---- the actions of all slots
-- each is what f makes of it
pub record Written (f : ℕ → Action → Action) (old new : List Action) : Type 0 where
  pub size : length new ≡ length old
  pub each : (i : ℕ) → action_at new i ≡ f i (action_at old i)

-- ---- an event
-- the slots held that a work asks about
pub record Asked (slots : List Row) (w : Work) (priorities set mask fitting : List ℕ) : Type 0 where
  pub few : length slots ≤ 512
  pub ranks : (i : ℕ) (d : Row) → i < length slots → get_or priorities i 0 ≡ (get_or slots i d).entry.key.priority
  pub marks : Marks (chosen w) slots mask
  pub shared : (i : ℕ) → member fitting i ≡ (member set i && member mask i)

-- the answer of a packet: the best of the slots that fit
abbrev pub Found : List ℕ → List ℕ → List Action → Answer → Type 0
Found fitting priorities actions r =
    (slots : List Row) (w : Work) (set mask : List ℕ) → Asked slots w priorities set mask fitting → r ≡ seen_rows (chosen w) Answer.Miss (state_rows slots set actions)

-- the answer of a plan
abbrev pub Answers : Reply → Bool → List ℕ → List ℕ → List Action → Answer → Type 0
Answers Reply.Silent met fitting priorities actions r = r ≡ Answer.Silent
Answers Reply.Best met fitting priorities actions r = Found fitting priorities actions r
Answers Reply.Done met fitting priorities actions r = r ≡ Answer.Done (not met)

-- the slots at an event, and its mask and plan
pub record Moment (slots : List Row) (o : Operation) (mask : List ℕ) (plan : Plan) (priorities set : List ℕ) : Type 0 where
  pub few : length slots ≤ 512
  pub sorted : SortedRows slots
  pub step : StepFor slots o mask plan
  pub ranks : (i : ℕ) (d : Row) → i < length slots → get_or priorities i 0 ≡ (get_or slots i d).entry.key.priority
  pub inside : Inside slots set

-- what it leaves and answers
pub record StepsTo (slots : List Row) (o : Operation) (set : List ℕ) (actions left : List Action) (r : Stepped) : Type 0 where
  pub inside : Inside slots r.set
  pub rows : state_rows slots r.set left ≡ step_rows o (state_rows slots set actions)
  pub answer : r.answer ≡ answer_rows o (state_rows slots set actions)

-- ---- an order
-- the rows of a state
abbrev pub rows_in : List Row → State → List Row
rows_in slots s = state_rows slots s.set s.actions

pub record EndsAs (es : List Event) (slots : List Row) (o : List ℕ) (start : State) (r : Ended) : Type 0 where
  pub inside : Inside slots r.state.set
  pub rows : rows_in slots r.state ≡ run_rows es o (rows_in slots start)
  pub answers : (i : ℕ) → kept_at r.answers i ≡ answers_in es o (rows_in slots start) i

-- ---- the same end
abbrev pub SameEnds : Ended → Ended → ℕ → Bool → Type 0
SameEnds a b n r =
    (slots : List Row) → SortedRows slots → length slots ≤ 512 → Inside slots a.state.set → Inside slots b.state.set
    → (r ≡ true) ↔ ((rows_in slots a.state ≡ rows_in slots b.state) × ((i : ℕ) → i < n → kept_at a.answers i ≡ kept_at b.answers i))
