-- What each path through the code leaves: its answer and the two buffers. Assumes nothing.
use Rattle.std.specs.Prelude.{Ok, Err}
use mathlib.Core.Path.{◌≡◌, sym, ap, ◌∙◌, fun_ext}
use mathlib.Core.List.{List}
use Prim.Native.Nat.{ℕ, ◌≤◌}
use native.Mathlib.Omega.{arith}
use lib.ListN.{length, length-take}
use Rattle.refusals.specs.Checks.{Checked, ◌▹◌}
use Rattle.trace_events.specs.Events.{events_of}
use Rattle.rows.specs.Rows.{rows_of, SortedRows, tables_of}
use Rattle.tables_text.proofs.Accepted.{accepted_sorted}
use Rattle.inputs.specs.Inputs.{read_both}
use Rattle.inputs.proofs.Both.{both_accepted, both_then}
use Rattle.happens_before.specs.Inner.{bit, HappensBefore}
use Rattle.order_check.specs.Schedule.{check_by, check_order}
use Rattle.order_check.proofs.Accepted.{accepted_complete}
use Rattle.order_check.proofs.ByRows.{check_rows}
use Rattle.replay_answers.specs.Inner.{kept_at}
use Rattle.order_run.specs.Inner.{RunsTo}
use Rattle.replay_texts.specs.Inner.{both_texts, fitting_both, Leaves}
use Rattle.replay_texts.proofs.Leaving.{leaves_as, refused_as_lem}
use Rattle.replay_call.specs.Types.{Refusal, Event, Trace, Row, Rows, Ran}
use Rattle.replay_call.specs.Replay.{replayed}
use Rattle.replay_call.specs.Inner.{from_tables, row_texts, ordered_from}
use Rattle.replay_call.proofs.RowsAreTables.{checks_are}

-- ---- the run
pub ran_through : (es : List Event) (o : List ℕ) (start : Rows) (ran : Ran) → RunsTo es o start ran → (n a b : ℕ) {r : Checked (ℕ × ℕ)} {old new old' new' : List ℕ} → length es ≡ n
    → Leaves (fitting_both (both_texts (rows_of ran.rows) (kept_at ran.answers) n) a b) r old new old' new' → Leaves (fitting_both (row_texts es o (rows_of start)) a b) r old new old' new'
unfolding row_texts
ran_through es o start ran runs n a b size l = leaves_as (λ i. fitting_both (both_texts (runs.rows i) (fun_ext runs.answers i) (sym size i)) a b) l

-- ---- 21, 22, or the run
-- the check by the rows of happens-before is that of the order
pub order_told : (delay : ℕ) (es : List Event) (rows : List (List ℕ)) → HappensBefore delay es rows → (o : List ℕ) {n : ℕ} → length es ≡ n
    → {x : Checked (Unit {0})} → x ≡ check_by (bit rows) n o → x ≡ check_order delay es o
order_told delay es rows holds o size told = told ∙ ap (λ (n : ℕ). check_by (bit rows) n o) (sym size) ∙ check_rows delay es rows holds o

module _ (delay : ℕ) (es : List Event) (rs : List Row) (o : List ℕ) (a b : ℕ) where
  pub order_refused : {e : Refusal} {old old' : List ℕ} → Err e ≡ check_order delay es o → Leaves (ordered_from delay es rs o a b) (Err e) old old old' old'
  order_refused p = refused_as_lem (ap (λ x. x ▹ λ _. fitting_both (row_texts es o rs) a b) p)

  pub order_accepted : {r : Checked (ℕ × ℕ)} {old new old' new' : List ℕ} → Ok tt ≡ check_order delay es o → Leaves (fitting_both (row_texts es o rs) a b) r old new old' new' → Leaves (ordered_from delay es rs o a b) r old new old' new'
  order_accepted p l = leaves_as (ap (λ x. x ▹ λ _. fitting_both (row_texts es o rs) a b) p) l

pub events_few : (t : Trace) → t.len ≤ 256 → length (events_of t) ≤ 256
unfolding events_of
events_few t h = omega (arith, length-take t.len t.events)

pub order_short : (delay : ℕ) (es : List Event) (o : List ℕ) → length es ≤ 256 → Ok tt ≡ check_order delay es o → length o ≤ 256
order_short delay es o h p = omega (arith, (accepted_complete delay es o (sym p)).size)

-- ---- the texts refused, or what follows
module _ (delay : ℕ) (s t o : List ℕ) (a b : ℕ) where
  in_turn : (read_both delay s t ▹ λ (es, rs). from_tables delay es (tables_of rs) o a b) ≡ replayed delay s t o a b
  unfolding replayed
  in_turn = both_then delay s t (λ es rs. from_tables delay es (tables_of rs) o a b)

  pub texts_refused : {e : Refusal} {old old' : List ℕ} → Err e ≡ read_both delay s t → Leaves (replayed delay s t o a b) (Err e) old old old' old'
  texts_refused p = refused_as_lem (ap (λ x. x ▹ λ (es, rs). from_tables delay es (tables_of rs) o a b) p ∙ in_turn)

  pub texts_accepted : (es : List Event) (rs : List Row) {r : Checked (ℕ × ℕ)} {old new old' new' : List ℕ} → Ok (es, rs) ≡ read_both delay s t
      → Leaves (ordered_from delay es rs o a b) r old new old' new' → Leaves (replayed delay s t o a b) r old new old' new'
  texts_accepted es rs p l =
      let h = both_accepted delay s t es rs (sym p) in
      leaves_as (checks_are delay s t es rs h.0 h.1 o a b ∙ ap (λ x. x ▹ λ (es, rs). from_tables delay es (tables_of rs) o a b) p ∙ in_turn) l

-- the rows of accepted tables are in order
pub start_sorted : (delay : ℕ) (s t : List ℕ) (es : List Event) (rs : List Row) → Ok (es, rs) ≡ read_both delay s t → SortedRows rs
start_sorted delay s t es rs p = accepted_sorted t rs (both_accepted delay s t es rs (sym p)).1
