-- What each path through the code leaves: its answer and the buffer. Assumes nothing.
use Rattle.std.specs.Prelude.{Ok, Err}
use mathlib.Core.Path.{◌≡◌, refl, sym, ap, ◌∙◌}
use mathlib.Core.Bool.{true, false}
use mathlib.Core.List.{List}
use Prim.Native.Nat.{ℕ, ◌≤◌, ◌<◌}
use native.Mathlib.Omega.{arith}
use borrow.Author.Tests.{lt-ltb, le-ltb}
use lib.ListN.{length}
use Rattle.basics.specs.Text.{starting_with}
use Rattle.refusals.specs.Checks.{Checked, ◌▹◌, written}
use Rattle.flow_table.specs.Switches.{Tables}
use Rattle.rows.specs.Rows.{tables_of}
use Rattle.trace_text.proofs.Accepted.{events_in_range}
use Rattle.tables_text.proofs.Accepted.{accepted_sorted}
use Rattle.tables_normal.proofs.OfTables.{accepted_beyond}
use Rattle.inputs.specs.Inputs.{read_both}
use Rattle.inputs.proofs.Both.{both_accepted, both_then}
use Rattle.order_trials.specs.Trials.{order_count, uneven, order_bytes}
use Rattle.order_trials.specs.Inner.{Held}
use Rattle.order_trials.proofs.Counting.{bytes_length}
use Rattle.trials_call.specs.Types.{Refusal, Event, Row}
use Rattle.trials_call.specs.Tried.{tried, trials_answer}
use Rattle.trials_call.specs.Inner.{tried_from, Leaves}

module _ {y z : Checked (List ℕ)} {r : Checked ℕ} {old new : List ℕ} where
  leaves_as : y ≡ z → Leaves y r old new → Leaves z r old new
  leaves_as e l = record { answer = l.answer ∙ ap trials_answer e; bytes = l.bytes ∙ ap (λ x. written x old) e }

-- after a refusal the buffer is as it was
refused_as_lem : {y : Checked (List ℕ)} {e : Refusal} {old : List ℕ} → Err e ≡ y → Leaves y (Err e) old old
refused_as_lem p = leaves_as p (record { answer = refl; bytes = refl })

-- ---- 52; 53; or the bytes
module _ (delay : ℕ) (es : List Event) (start : Tables) (os old : List ℕ) {n : ℕ} (count : length es ≡ n) where
  pub lengths_uneven : uneven n (length os) ≡ true → Leaves (tried_from delay es start os (length old)) (Err Refusal.OrdersUneven) old old
  lengths_uneven u = refused_as_lem (sym (rw (count, u) refl))

  module _ (even : uneven n (length os) ≡ false) {m : ℕ} (orders : m ≡ order_count n (length os)) where
    size : length (order_bytes delay es start os) ≡ m
    size = bytes_length delay es start os ∙ ap (λ (k : ℕ). order_count k (length os)) count ∙ sym orders

    even_here : uneven (length es) (length os) ≡ false
    even_here = ap (λ (k : ℕ). uneven k (length os)) count ∙ even

    pub bytes_short : length old < m → Leaves (tried_from delay es start os (length old)) (Err (Refusal.TrialsShort m)) old old
    bytes_short h = refused_as_lem (sym (rw (even_here, size, lt-ltb (length old) m h) refl))

    pub bytes_written : m ≤ length old → {new : List ℕ} → new ≡ starting_with (order_bytes delay es start os) old
        → Leaves (tried_from delay es start os (length old)) (Ok m) old new
    bytes_written h e =
        leaves_as {y = Ok (order_bytes delay es start os)}
        (sym (rw (even_here, le-ltb (length old) (length (order_bytes delay es start os)) (omega (arith, size))) refl))
        (record { answer = ap Ok (sym size); bytes = e })

-- ---- the texts refused, or what follows
module _ (delay : ℕ) (s t os : List ℕ) (room : ℕ) where
  in_turn : (read_both delay s t ▹ λ (es, rs). tried_from delay es (tables_of rs) os room) ≡ tried delay s t os room
  unfolding tried
  in_turn = both_then delay s t (λ es rs. tried_from delay es (tables_of rs) os room)

  pub texts_refused : {e : Refusal} {old : List ℕ} → Err e ≡ read_both delay s t → Leaves (tried delay s t os room) (Err e) old old
  texts_refused p = refused_as_lem (ap (λ x. x ▹ λ (es, rs). tried_from delay es (tables_of rs) os room) p ∙ in_turn)

  pub texts_accepted : (es : List Event) (rs : List Row) {r : Checked ℕ} {old new : List ℕ} → Ok (es, rs) ≡ read_both delay s t
      → Leaves (tried_from delay es (tables_of rs) os room) r old new → Leaves (tried delay s t os room) r old new
  texts_accepted es rs p l = leaves_as (ap (λ x. x ▹ λ (es, rs). tried_from delay es (tables_of rs) os room) p ∙ in_turn) l

-- the rows of accepted tables are in order and of the switches 0 to 15, as the events of an accepted trace are
pub held : (delay : ℕ) (s t : List ℕ) (es : List Event) (rs : List Row) → Ok (es, rs) ≡ read_both delay s t → Held es rs
held delay s t es rs p =
    let h = both_accepted delay s t es rs (sym p) in
    record { sorted = accepted_sorted t rs h.1; switches = λ i. (events_in_range delay s es h.0 i).switch; beyond = accepted_beyond t rs h.1 }
