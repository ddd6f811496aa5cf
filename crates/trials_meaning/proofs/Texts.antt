-- An accepted order agrees with another exactly if single replays write the same texts of both (`agreeing_texts_iff`); and what a single
-- replay refuses of an order (`order_refused_iff`) or writes (`writes_texts`). Assumes nothing.
use mathlib.Core.Path.{◌≡◌, refl, sym, ap, ◌∙◌}
use mathlib.Core.Bool.{Bool, true, false, not}
use mathlib.Core.Logic.{◌↔◌, ◌⊎◌, inl, inr, ⊎_elim}
use mathlib.Core.List.{List, [], ◌∷◌}
use Rattle.std.specs.Prelude.{Option, None, Some, Ok, Err}
use Prim.Native.Nat.{ℕ}
use native.Mathlib.Decide.{dec_lt}
use native.Mathlib.Omega.{arith}
use lib.Dec.{eqb, ltb}
use lib.ListN.{length}
use Rattle.basics.specs.Searches.{has}
use Rattle.basics.proofs.Booleans.{or_left, or_right}
use Rattle.refusals.specs.Checks.{Checked, ◌▹◌, refuse_if, refuse_at}
use Rattle.refusals.specs.Refusals.{number_of}
use Rattle.refusals.proofs.Checks.{same_value}
use Rattle.text_reader.proofs.Each.{accepts, refuses}
use Rattle.flow_table.specs.Switches.{Tables, step_of}
use Rattle.order_meaning.specs.Orders.{IsOrderOf}
use Rattle.order_meaning.specs.Tables.{end_tables, answers}
use Rattle.rows.specs.Rows.{table_of, tables_of}
use Rattle.trace_text.specs.TraceText.{read_trace}
use Rattle.trace_text.proofs.Accepted.{events_in_range}
use Rattle.tables_text.specs.TableText.{read_tables}
use Rattle.tables_text.proofs.Accepted.{accepted_sorted}
use Rattle.tables_normal.proofs.OfTables.{accepted_beyond}
use Rattle.order_check.specs.Schedule.{complete, first_early, check_order}
use Rattle.order_check.proofs.Accepted.{accepted_complete}
use Rattle.order_rows.specs.Runs.{operation_at}
use Rattle.order_rows.proofs.EndTables.{run_tables}
use Rattle.order_rows.proofs.Answering.{absent}
use Rattle.order_trials.specs.Same.{agreeing}
use Rattle.order_trials.specs.Inner.{Held}
use Rattle.order_trials.proofs.Agreeing.{agreeing_iff}
use Rattle.order_trials.proofs.OnRows.{rows_agree_iff}
use Rattle.replay_texts.specs.Writing.{Replayed}
use Rattle.replay_call.specs.Replay.{texts_of, replayed}
use Rattle.replay_call.proofs.Theorems.{only_rooms}
use Rattle.replay_agreement.proofs.TextsTell.{texts_tell}
use Rattle.trials_meaning.specs.Types.{Refusal, Event, Row}
use Rattle.trials_meaning.specs.Single.{OrderRefused}

-- an event that doesn't stand in an order has no answer in it
none_given : (es : List Event) (o : List ℕ) (start : Tables) (i : ℕ) → has i o ≡ false → answers (operation_at es) o start i ≡ None
none_given es [] start i h = refl
none_given es (j ∷ o) start i h = rw (or_left (eqb i j) (has i o) h) (none_given es o (step_of (operation_at es j) start) i (or_right (eqb i j) (has i o) h))

-- 21 and 22 are what an order is refused by
pub order_numbers : (delay : ℕ) (es : List Event) (o : List ℕ) (r : Refusal) → check_order delay es o ≡ Err r → (number_of r ≡ 21) ⊎ (number_of r ≡ 22)
unfolding check_order
order_numbers delay es o r = go (complete (length es) o) (first_early delay es o)
  where
    go : (b : Bool) (p : Option ℕ) → (refuse_if (not b) Refusal.OrderIncomplete ▹ λ _. refuse_at p Refusal.EventTooEarly) ≡ Err r → (number_of r ≡ 21) ⊎ (number_of r ≡ 22)
    go false p e = inl (ap number_of (sym (let q : Refusal.OrderIncomplete ≡ r = cc in q)))
    go true (Some k) e = inr (ap number_of (sym (let q : Refusal.EventTooEarly k ≡ r = cc in q)))
    go true None e = absurd (accepts e)

module _ (delay : ℕ) (s t : List ℕ) (es : List Event) (rs : List Row) (trace : read_trace delay s ≡ Ok es) (tables : read_tables t ≡ Ok rs) where
  -- the rows of accepted tables, and the events of an accepted trace
  held : Held es rs
  held = record { sorted = accepted_sorted t rs tables; switches = λ i. (events_in_range delay s es trace i).switch; beyond = accepted_beyond t rs tables }

  module _ (o q : List ℕ) (order : check_order delay es o ≡ Ok tt) (other : check_order delay es q ≡ Ok tt) where
    whole : (p : List ℕ) → check_order delay es p ≡ Ok tt → IsOrderOf (length es) p
    whole p e = accepted_complete delay es p e

    pub agreeing_texts_iff : (agreeing es (tables_of rs) o q ≡ true) ↔ (texts_of es o (tables_of rs) ≡ texts_of es q (tables_of rs))
    agreeing_texts_iff =
        let tell = texts_tell delay s t es rs trace tables o q order other in (
          λ h.
              let rows = ((rows_agree_iff es rs held o q (whole o order) (whole q other)).1 h).0 in
              let left : (w : ℕ) → end_tables (operation_at es) o (tables_of rs) w ≡ end_tables (operation_at es) q (tables_of rs) w = λ w. sym (run_tables es o rs held.sorted w) ∙ ap (table_of w) rows ∙ run_tables es q rs held.sorted w in
              let given : (i : ℕ) → answers (operation_at es) o (tables_of rs) i ≡ answers (operation_at es) q (tables_of rs) i = λ i. elim (dec_lt i (length es)) [
                | yes l ↦ ((agreeing_iff es (tables_of rs) o q).0 h).1 i l
                | no g ↦ none_given es o (tables_of rs) i (absent (whole o order) i g) ∙ sym (none_given es q (tables_of rs) i (absent (whole q other) i g))
              ] in
              tell.1 (left, given),
          λ e. let (left, given) = tell.0 e in (agreeing_iff es (tables_of rs) o q).1 (λ w l. left w, λ i l. given i),
        )

  module _ (o : List ℕ) (room room' : ℕ) where
    -- a refused order is what the replay refuses
    pub refused_told : (r : Refusal) → check_order delay es o ≡ Err r → replayed delay s t o room room' ≡ Err r
    unfolding replayed
    refused_told r e = rw (trace, tables, e) refl

    -- an accepted order isn't refused by 21 or 22
    pub never_refused : check_order delay es o ≡ Ok tt → OrderRefused delay s t o room room' → ⊥
    never_refused e (r, p, n) = go (ltb room (length x.tables)) (ltb room' (length x.answers)) (sym (only_rooms delay s t o es rs trace tables e room room') ∙ p)
      where
        x : Replayed
        x = texts_of es o (tables_of rs)

        go : (a b : Bool) → (refuse_if a (Refusal.TablesShort (length x.tables)) ▹ λ _. refuse_if b (Refusal.AnswersShort (length x.answers)) ▹ λ _. Ok x) ≡ Err r → ⊥
        go true b g = let q : Refusal.TablesShort (length x.tables) ≡ r = cc in ⊎_elim (λ m. omega (arith, ap number_of q, m)) (λ m. omega (arith, ap number_of q, m)) n
        go false true g = let q : Refusal.AnswersShort (length x.answers) ≡ r = cc in ⊎_elim (λ m. omega (arith, ap number_of q, m)) (λ m. omega (arith, ap number_of q, m)) n
        go false false g = accepts g

    -- what is written is the texts of an accepted order
    pub writes_texts : (x : Replayed) → replayed delay s t o room room' ≡ Ok x → (check_order delay es o ≡ Ok tt) × (texts_of es o (tables_of rs) ≡ x)
    writes_texts x e = by (check_order delay es o) refl
      where
        fits : check_order delay es o ≡ Ok tt → texts_of es o (tables_of rs) ≡ x
        fits a = go (ltb room (length y.tables)) (ltb room' (length y.answers)) (sym (only_rooms delay s t o es rs trace tables a room room') ∙ e)
          where
            y : Replayed
            y = texts_of es o (tables_of rs)

            go : (a b : Bool) → (refuse_if a (Refusal.TablesShort (length y.tables)) ▹ λ _. refuse_if b (Refusal.AnswersShort (length y.answers)) ▹ λ _. Ok y) ≡ Ok x → y ≡ x
            go true b g = refuses g
            go false true g = refuses g
            go false false g = same_value g

        by : (c : Checked (Unit {0})) → check_order delay es o ≡ c → (check_order delay es o ≡ Ok tt) × (texts_of es o (tables_of rs) ≡ x)
        by (Err r) p = refuses (sym (refused_told r p) ∙ e)
        by (Ok u) p = (p, fits p)
