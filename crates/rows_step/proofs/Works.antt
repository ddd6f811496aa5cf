-- What a pass over the rows does, and the work of each event: what the pass and the row put in after it leave and answer is what the
-- event does. Assumes nothing.
use mathlib.Core.Path.{◌≡◌, refl, sym, ◌∙◌, ap}
use mathlib.Core.Bool.{Bool, true, false, not, cond}
use mathlib.Core.List.{List, [], ◌∷◌}
use Prim.Native.Nat.{ℕ}
use lib.Dec.{eqb}
use Rattle.std.specs.Prelude.{Option, Some, None}
use Rattle.basics.proofs.Booleans.{split, and_false_right, or_left, or_right}
use Rattle.flow_table.specs.FlowTable.{entry, inside, clash, admits}
use Rattle.rows.specs.Rows.{row, SortedRows, insert_row, remove_rows, assign_row, assign_rows, any_row, on_switch, passes}
use Rattle.rows.proofs.RowLaws.{sorted_remove, sorted_assign}
use Rattle.rows_step.specs.Types.{Packet, Action, Key, Entry, Answer, Effect, Row, Filter, Change}
use Rattle.rows_step.specs.Stepping.{effect_step, effect_answer}
use Rattle.rows_step.specs.Inner.{changed, is_dropped, treated, seen, seen_rows, with_put, WorkFor, putting, removing, work_of}
use Rattle.rows_step.proofs.Lookups.{lookup_best}

-- ---- a pass, row by row
module _ (p : Row → Bool) where
  pub none_changed : (c : Change) → changed c p [] ≡ []
  unfolding changed remove_rows assign_rows
  none_changed Change.Keep = refl
  none_changed Change.Drop = refl
  none_changed (Change.Assign a) = refl

  pub row_changed : (c : Change) (x : Row) (xs : List Row) → changed c p (x ∷ xs) ≡ cond (is_dropped c (p x)) (changed c p xs) (treated c (p x) x ∷ changed c p xs)
  unfolding changed remove_rows assign_rows
  row_changed Change.Keep x xs = refl
  row_changed Change.Drop x xs = refl
  row_changed (Change.Assign a) x xs = refl

  pub sorted_changed : (c : Change) (rs : List Row) → SortedRows rs → SortedRows (changed c p rs)
  unfolding changed
  sorted_changed Change.Keep rs s = s
  sorted_changed Change.Drop rs s = sorted_remove p rs s
  sorted_changed (Change.Assign a) rs s = sorted_assign p a rs s

  -- a row that does not pass stays
  not_chosen : (c : Change) (x : Row) (ys : List Row) → cond (is_dropped c false) ys (treated c false x ∷ ys) ≡ x ∷ ys
  unfolding assign_row
  not_chosen Change.Keep x ys = refl
  not_chosen Change.Drop x ys = refl
  not_chosen (Change.Assign a) x ys = refl

  -- where no row passes, all stay
  pub none_pass : (c : Change) (rs : List Row) → any_row p rs ≡ false → changed c p rs ≡ rs
  unfolding any_row
  none_pass c [] h = none_changed c
  none_pass c (x ∷ xs) h =
      row_changed c x xs ∙ rw (or_left (p x) (any_row p xs) h) (not_chosen c x (changed c p xs))
      ∙ ap (λ ys. x ∷ ys) (none_pass c xs (or_right (p x) (any_row p xs) h))

-- ---- the answer
module _ (q : Row → Bool) where
  pub none_seen : (a : Answer) (rs : List Row) → any_row q rs ≡ false → seen_rows q a rs ≡ a
  unfolding any_row seen_rows
  none_seen a [] h = refl
  none_seen a (x ∷ xs) h = rw (or_left (q x) (any_row q xs) h) (none_seen a xs (or_right (q x) (any_row q xs) h))

  -- an answer that a row that passes leaves stays
  stays : (a : Answer) → ((e : Entry) → seen a e ≡ a) → (rs : List Row) → seen_rows q a rs ≡ a
  unfolding seen_rows
  stays a h [] = refl
  stays a h (x ∷ xs) = split (q x) (λ u. rw (u, h x.entry) (stays a h xs)) (λ u. rw u (stays a h xs))

  pub silent_stays : (rs : List Row) → Answer.Silent ≡ seen_rows q Answer.Silent rs
  unfolding seen
  silent_stays rs = sym (stays Answer.Silent (λ e. refl) rs)

  -- done unless a row passes
  pub done_unless : (rs : List Row) → seen_rows q (Answer.Done true) rs ≡ Answer.Done (not (any_row q rs))
  unfolding seen_rows seen any_row
  done_unless [] = refl
  done_unless (x ∷ xs) = split (q x) (λ u. rw u (stays (Answer.Done false) (λ e. refl) xs)) (λ u. rw u (done_unless xs))

-- no row passes the empty filter
pub nothing_passes : (w : ℕ) (rs : List Row) → any_row (on_switch w (passes Filter.Nothing)) rs ≡ false
unfolding any_row on_switch
nothing_passes w [] = refl
nothing_passes w (x ∷ xs) = rw (and_false_right (eqb w x.switch) refl) (nothing_passes w xs)

-- ---- the work of each event
-- nothing is asked
putting_work : (s : ℕ) (v : Effect) (p : Option Row) → ((rs : List Row) → effect_step s v rs ≡ with_put p rs) → ((rs : List Row) → effect_answer s v rs ≡ Answer.Silent)
    → WorkFor s v (putting p)
unfolding changed
putting_work s v p f g = record {
  fresh = refl;
  rows = λ rs. f rs ∙ rw (nothing_passes 0 rs) refl;
  answered = λ rs. g rs ∙ silent_stays _ rs;
}

packet_work : (s : ℕ) (p : Packet) → WorkFor s (Effect.Pkt p) (record { switch = s; filter = Filter.Fits p; change = Change.Keep; put = None; answer = Answer.Miss })
unfolding changed effect_step effect_answer
packet_work s p = record {
  fresh = refl;
  rows = λ rs. split (any_row (on_switch s (admits p)) rs) (λ u. rw u refl) (λ u. rw u refl);
  answered = λ rs. sym (lookup_best s p rs);
}

checked_work : (s : ℕ) (k : Key) (a : Action) → WorkFor s (Effect.Addc k a) (record { switch = s; filter = Filter.Clash k; change = Change.Keep; put = Some (row s (entry k a)); answer = Answer.Done true })
unfolding changed effect_step effect_answer
checked_work s k a = record {
  fresh = refl;
  rows = λ rs. split (any_row (on_switch s (clash k)) rs) (λ u. rw u refl) (λ u. rw u refl);
  answered = λ rs. sym (done_unless _ rs);
}

modify_work : (s : ℕ) (k : Key) (a : Action) → WorkFor s (Effect.Modn k a) (record { switch = s; filter = Filter.Within k.pattern; change = Change.Assign a; put = Some (row s (entry k a)); answer = Answer.Silent })
unfolding changed effect_step effect_answer
modify_work s k a = record {
  fresh = refl;
  rows = λ rs. split (any_row (on_switch s (inside k.pattern)) rs) (λ u. rw u refl) (λ u. rw u (ap (insert_row (row s (entry k a))) (sym (none_pass _ (Change.Assign a) rs u))));
  answered = λ rs. silent_stays _ rs;
}

-- the rows of switch s that pass are dropped
removing_work : (s : ℕ) (v : Effect) (f : Filter) → ((rs : List Row) → effect_step s v rs ≡ remove_rows (on_switch s (passes f)) rs) → ((rs : List Row) → effect_answer s v rs ≡ Answer.Silent)
    → WorkFor s v (removing s f)
unfolding changed
removing_work s v f h g = record {
  fresh = refl;
  rows = λ rs. h rs ∙ split (any_row (on_switch s (passes f)) rs) (λ u. rw u refl) (λ u. rw u refl);
  answered = λ rs. g rs ∙ silent_stays _ rs;
}

pub work_for : (s : ℕ) (v : Effect) → WorkFor s v (work_of s v)
unfolding work_of effect_step effect_answer
work_for s (Effect.Pkt p) = packet_work s p
work_for s (Effect.Add k a) = putting_work s _ _ (λ rs. refl) (λ rs. refl)
work_for s (Effect.Addc k a) = checked_work s k a
work_for s (Effect.Modn k a) = modify_work s k a
work_for s (Effect.Dels k) = removing_work s _ _ (λ rs. refl) (λ rs. refl)
work_for s (Effect.Deln m) = removing_work s _ _ (λ rs. refl) (λ rs. refl)
work_for s Effect.Idle = putting_work s _ _ (λ rs. refl) (λ rs. refl)
