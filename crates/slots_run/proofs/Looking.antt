-- The look-up of a packet, slot by slot. Assumes nothing.
use mathlib.Core.Path.{◌≡◌, refl, sym, ap, ◌∙◌}
use mathlib.Core.Bool.{true, false, false≢true}
use mathlib.Core.List.{List, [], ◌∷◌}
use Rattle.std.specs.Prelude.{Some, None}
use Prim.Native.Nat.{ℕ, suc, ◌+◌, ◌≤◌, ◌<◌}
use native.Mathlib.Numerals.{add-one}
use native.Mathlib.Omega.{arith}
use lib.ListN.{length, get_or, drop}
use Rattle.basics.proofs.Booleans.{and_right}
use Rattle.bit_sets.specs.Inner.{member, NextFrom}
use Rattle.flow_table.specs.FlowTable.{entry}
use Rattle.rows_step.specs.Inner.{chosen, counted, seen, seen_rows}
use Rattle.slots.specs.Inner.{action_at, held_rows, state_rows}
use Rattle.slots.proofs.Held.{of_slot_chosen, mark_inside, seen_skip, seen_turn, seen_end}
use Rattle.slots_run.specs.Types.{Action, Key, Answer, Row, Work}
use Rattle.slots_run.specs.Inner.{Asked, Found}

-- the rows held from slot i on
abbrev pub held_from : List Row → List ℕ → List Action → ℕ → List Row
held_from slots set actions i = held_rows (member set) (action_at actions) i (drop i slots)

-- a look-up that has come to slot i
pub record Looking (fitting priorities : List ℕ) (actions : List Action) (answer : Answer) (i : ℕ) : Type 0 where
  pub count : counted answer ≤ i
  pub rest : (slots : List Row) (w : Work) (set mask : List ℕ) → Asked slots w priorities set mask fitting
      → seen_rows (chosen w) answer (held_from slots set actions i) ≡ seen_rows (chosen w) Answer.Miss (state_rows slots set actions)

module _ (fitting priorities : List ℕ) (actions : List Action) where
  -- slots that don't fit are passed over
  passed : (answer : Answer) (from r : ℕ) → from ≤ r → ((k : ℕ) → from ≤ k → k < r → member fitting k ≡ false) → (slots : List Row) (w : Work) (set mask : List ℕ)
      → Asked slots w priorities set mask fitting → seen_rows (chosen w) answer (held_from slots set actions from) ≡ seen_rows (chosen w) answer (held_from slots set actions r)
  passed answer from r l n slots w set mask q =
      seen_skip (chosen w) (of_slot_chosen w) slots mask q.marks (member set) (action_at actions) answer from r l (λ k u v. sym (q.shared k) ∙ n k u v)

  pub look_start : Looking fitting priorities actions Answer.Miss 0
  look_start = record { count = omega arith; rest = λ slots w set mask q. refl }

  module _ (answer : Answer) (i : ℕ) (l : Looking fitting priorities actions answer i) where
    -- the slot at j
    met : (more : Answer) (j : ℕ) → member fitting j ≡ true → ((k : Key) → k.priority ≡ get_or priorities j 0 → more ≡ seen answer (entry k (action_at actions j)))
        → (slots : List Row) (w : Work) (set mask : List ℕ) → Asked slots w priorities set mask fitting
        → seen_rows (chosen w) answer (held_from slots set actions j) ≡ seen_rows (chosen w) more (held_from slots set actions (j + 1))
    met more j h e [] w set mask q = absurd (false≢true (sym (q.marks j) ∙ and_right (member set j) (member mask j) (sym (q.shared j) ∙ h)))
    met more j h e (x ∷ xs) w set mask q =
        seen_turn (chosen w) (of_slot_chosen w) (x ∷ xs) mask q.marks (member set) (action_at actions) answer j x (sym (q.shared j) ∙ h)
        ∙ ap (λ a. seen_rows (chosen w) a (held_from (x ∷ xs) set actions (suc j))) (sym (e _ (sym (q.ranks j x inside))))
        ∙ rw add-one refl
      where
        inside : j < length (x ∷ xs)
        inside = mark_inside (chosen w) (x ∷ xs) j (sym (q.marks j) ∙ and_right (member set j) (member mask j) (sym (q.shared j) ∙ h))

    pub look_turn : (more : Answer) (j : ℕ) → NextFrom fitting i (Some j) → ((k : Key) → k.priority ≡ get_or priorities j 0 → more ≡ seen answer (entry k (action_at actions j)))
        → counted more ≤ counted answer + 1 → Looking fitting priorities actions more (j + 1)
    look_turn more j n e c = record {
      count = omega (arith, l.count, n.after);
      rest = λ slots w set mask q. sym (met more j n.here e slots w set mask q) ∙ sym (passed answer i j n.after n.skipped slots w set mask q) ∙ l.rest slots w set mask q;
    }

    pub look_end : NextFrom fitting i None → Found fitting priorities actions answer
    look_end n slots w set mask q =
        sym (seen_end (chosen w) (of_slot_chosen w) slots mask q.marks (member set) (action_at actions) answer (i + length slots) (omega arith))
        ∙ sym (passed answer i (i + length slots) (omega arith) (λ k u v. n k u) slots w set mask q)
        ∙ l.rest slots w set mask q
