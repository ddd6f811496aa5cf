-- Inner: the rows of a run as slots. The slots are switches and keys in order, as rows whose actions don't count: all that a run of a
-- trace from given tables can ever hold. What is held at a moment is a set of their numbers, with an action for each;
-- an event then needs no search, only the set of the slots that it asks about and the number of its own.
use Rattle.std.specs.Prelude.{◌≡◌, Bool, true, false, cond, Option, Some, None, List, [], ◌∷◌, ℕ, zero, suc, ◌≤◌, ◌<◌, eqb, length, get_or}
use Rattle.bit_sets.specs.Inner.{member}
use Rattle.flow_table.specs.FlowTable.{entry, effect_of}
use Rattle.flow_table.specs.Switches.{switch_of}
use Rattle.rows.specs.Rows.{row, same_slot, SortedRows}
use Rattle.rows_step.specs.Inner.{chosen, WorkFor}
use Rattle.order_rows.specs.Runs.{operation_at}
use Rattle.slots.specs.Types.{Action, Answer, Operation, Event, Row, Change, Work, Put, Reply, Plan, Steps}

-- ---- what is held
-- the row of a slot, with an action
abbrev pub with_action : Row → Action → Row
with_action x a = row x.switch (entry x.entry.key a)

-- of the slots, numbered from k on, those whose number passes h, each with its action
unfoldable pub held_rows : (ℕ → Bool) → (ℕ → Action) → ℕ → List Row → List Row
held_rows h a k [] = []
held_rows h a k (x ∷ xs) = cond (h k) (with_action x (a k) ∷ held_rows h a (suc k) xs) (held_rows h a (suc k) xs)

-- the action of slot i
abbrev pub action_at : List Action → ℕ → Action
action_at actions i = get_or actions i Action.Drop

-- the rows of a set of slots with their actions
abbrev pub state_rows : List Row → List ℕ → List Action → List Row
state_rows slots set actions = held_rows (member set) (action_at actions) 0 slots

-- there is a slot of number i, and it passes the test
abbrev pub mark_at : (Row → Bool) → List Row → ℕ → Bool
mark_at p [] i = false
mark_at p (x ∷ xs) zero = p x
mark_at p (x ∷ xs) (suc i) = mark_at p xs i

-- the set is that of the slots that pass the test
abbrev pub Marks : (Row → Bool) → List Row → List ℕ → Type 0
Marks p slots set = (i : ℕ) → member set i ≡ mark_at p slots i

-- the set has numbers of slots only
abbrev pub Inside : List Row → List ℕ → Type 0
Inside slots set = (i : ℕ) → member set i ≡ true → i < length slots

-- ---- an event
-- the action of a slot after a change, by whether it is met
abbrev pub assigned : Change → Bool → Action → Action
assigned Change.Keep b a = a
assigned Change.Drop b a = a
assigned (Change.Assign v) b a = cond b v a

-- slot i is the one that is put in, and its action then
abbrev pub put_at : Option Put → ℕ → Bool
put_at None i = false
put_at (Some p) i = eqb i p.slot

abbrev pub put_action : Option Put → ℕ → Action → Action
put_action None i a = a
put_action (Some p) i a = cond (eqb i p.slot) p.action a

-- what is put in is the slot of the row, with its action
abbrev pub PutPlanned : List Row → Option Row → Option Put → Type 0
PutPlanned slots None None = Unit {0}
PutPlanned slots None (Some p) = ⊥
PutPlanned slots (Some r) None = ⊥
PutPlanned slots (Some r) (Some p) = (mark_at (same_slot r) slots p.slot ≡ true) × (p.action ≡ r.entry.action)

-- the answer to begin with
abbrev pub begins : Reply → Answer
begins Reply.Silent = Answer.Silent
begins Reply.Best = Answer.Miss
begins Reply.Done = Answer.Done true

-- the slots that an event asks about, and its plan
pub record StepFor (slots : List Row) (o : Operation) (mask : List ℕ) (plan : Plan) : Type 0 where
  pub work : Work
  pub is_for : WorkFor (switch_of o) (effect_of o) work
  pub marks : Marks (chosen work) slots mask
  pub change : plan.change ≡ work.change
  pub put : PutPlanned slots work.put plan.put
  pub answer : work.answer ≡ begins plan.reply

-- that of an event that does nothing
abbrev pub idle : Plan
idle = record { change = Change.Keep; put = None; reply = Reply.Silent }

-- the slots of a trace's events, with the steps of all
pub record SlotsOf (es : List Event) (slots : List Row) (p : Steps) : Type 0 where
  pub few : length slots ≤ 512
  pub sorted : SortedRows slots
  pub steps : (e : ℕ) → e < 256 → StepFor slots (operation_at es e) (get_or p.masks e []) (get_or p.plans e idle)
  pub ranks : (i : ℕ) (d : Row) → i < length slots → get_or p.priorities i 0 ≡ (get_or slots i d).entry.key.priority
