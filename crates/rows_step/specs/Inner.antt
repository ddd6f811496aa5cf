-- Inner: an event as one pass over the rows and at most one row put in: what becomes of each row, the answer so far, and what the work of an
-- event is.
use Rattle.std.specs.Prelude.{◌≡◌, Bool, true, false, cond, Option, Some, None, List, [], ◌∷◌, ℕ, ◌+◌, eqb, ltb}
use Rattle.flow_table.specs.FlowTable.{entry}
use Rattle.rows.specs.Rows.{row, insert_row, remove_rows, assign_row, assign_rows, any_row, on_switch, passes}
use Rattle.rows_step.specs.Types.{Action, Entry, Answer, Effect, Row, Filter, Change, Work}
use Rattle.rows_step.specs.Stepping.{effect_step, effect_answer}

-- ---- the rows that pass a test are kept, dropped or assigned
unfoldable pub changed : Change → (Row → Bool) → List Row → List Row
changed Change.Keep p rs = rs
changed Change.Drop p rs = remove_rows p rs
changed (Change.Assign a) p rs = assign_rows p a rs

-- a row, by whether it passes
abbrev pub is_dropped : Change → Bool → Bool
is_dropped Change.Keep b = false
is_dropped Change.Drop b = b
is_dropped (Change.Assign a) b = false

abbrev pub treated : Change → Bool → Row → Row
treated Change.Keep b x = x
treated Change.Drop b x = x
treated (Change.Assign a) b x = assign_row b a x

-- ---- the answer so far
-- how many entries it counts
abbrev pub counted : Answer → ℕ
counted Answer.Silent = 0
counted Answer.Miss = 0
counted (Answer.Hit n count a) = count
counted (Answer.Done b) = 0

-- after one more entry that fits
unfoldable pub seen_at : ℕ → ℕ → Action → ℕ → Action → Answer
seen_at best count first priority action =
    cond (ltb best priority) (Answer.Hit priority 1 action) (cond (eqb best priority) (Answer.Hit best (count + 1) first) (Answer.Hit best count first))

-- after one more entry that passes: an add that is checked is not done
unfoldable pub seen : Answer → Entry → Answer
seen Answer.Silent e = Answer.Silent
seen Answer.Miss e = Answer.Hit e.key.priority 1 e.action
seen (Answer.Hit best count first) e = seen_at best count first e.key.priority e.action
seen (Answer.Done b) e = Answer.Done false

-- after the rows that pass
unfoldable pub seen_rows : (Row → Bool) → Answer → List Row → Answer
seen_rows q h [] = h
seen_rows q h (x ∷ xs) = seen_rows q (cond (q x) (seen h x.entry) h) xs

-- ---- the work
-- the rows with what is put in
abbrev pub with_put : Option Row → List Row → List Row
with_put None rs = rs
with_put (Some r) rs = insert_row r rs

-- the rows that the work is on
abbrev pub chosen : Work → Row → Bool
chosen w = on_switch w.switch (passes w.filter)

-- w is the work of an event of switch s with the effect v: what it leaves and answers is what the pass does, with a row put in where
-- none passed
pub record WorkFor (s : ℕ) (v : Effect) (w : Work) : Type 0 where
  pub fresh : counted w.answer ≡ 0
  pub rows : (rs : List Row) → effect_step s v rs ≡ with_put (cond (any_row (chosen w) rs) None w.put) (changed w.change (chosen w) rs)
  pub answered : (rs : List Row) → effect_answer s v rs ≡ seen_rows (chosen w) w.answer rs

-- no row is asked, and what is put in is put in in any case
abbrev pub putting : Option Row → Work
putting p = record { switch = 0; filter = Filter.Nothing; change = Change.Keep; put = p; answer = Answer.Silent }

-- the rows of switch s that pass are dropped
abbrev pub removing : ℕ → Filter → Work
removing s f = record { switch = s; filter = f; change = Change.Drop; put = None; answer = Answer.Silent }

-- the work of an event, by its switch s and what it does there
unfoldable pub work_of : ℕ → Effect → Work
work_of s (Effect.Pkt p) = record { switch = s; filter = Filter.Fits p; change = Change.Keep; put = None; answer = Answer.Miss }
work_of s (Effect.Add k a) = putting (Some (row s (entry k a)))
work_of s (Effect.Addc k a) = record { switch = s; filter = Filter.Clash k; change = Change.Keep; put = Some (row s (entry k a)); answer = Answer.Done true }
work_of s (Effect.Modn k a) = record { switch = s; filter = Filter.Within k.pattern; change = Change.Assign a; put = Some (row s (entry k a)); answer = Answer.Silent }
work_of s (Effect.Dels k) = removing s (Filter.Same k)
work_of s (Effect.Deln m) = removing s (Filter.Within m)
work_of s Effect.Idle = putting None
