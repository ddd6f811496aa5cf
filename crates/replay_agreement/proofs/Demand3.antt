-- Demand 3, one theorem about an accepted trace (`demand_3`), and what keeps it from being empty: the orders that it speaks of are
-- accepted, the recorded order is one of them, and buffers that hold the texts are long enough. Of every accepted order:
-- `replay_follows`. Assumes nothing.
use Rattle.std.specs.Prelude.{Ok}
use mathlib.Core.Path.{◌≡◌, sym, ◌∙◌, subst}
use mathlib.Core.List.{List}
use Prim.Native.Nat.{ℕ, ◌≤◌}
use lib.ListN.{length}
use Rattle.order_meaning.specs.Tables.{end_tables}
use Rattle.rows.specs.Rows.{tables_of}
use Rattle.trace_events.specs.Clocks.{InLineOrder}
use Rattle.trace_text.proofs.Accepted.{accepted_in_line_order}
use Rattle.trace_text.specs.TraceText.{read_trace}
use Rattle.tables_text.specs.TableText.{read_tables}
use Rattle.tables_text.proofs.Accepted.{accepted_table}
use Rattle.order_check.specs.Schedule.{check_order}
use Rattle.order_check.proofs.Accepted.{order_accepted_iff, recorded_accepted}
use Rattle.replay_agreement.specs.Types.{Event, Row}
use Rattle.replay_agreement.specs.Allowed.{Allowed}
use Rattle.order_rows.specs.Runs.{operation_at, recorded}
use Rattle.tables_normal.specs.Normal.{tables_text}
use Rattle.replay_call.specs.Replay.{answer_lines, texts_of}
use Rattle.replay_call.proofs.Theorems.{only_rooms}
use Rattle.replay_agreement.specs.Buffers.{LongEnough, Writes}
use Rattle.replay_agreement.specs.Demand3.{Demand3}
use Rattle.replay_agreement.proofs.RecordedOrder.{recorded_allowed}
use Rattle.replay_agreement.proofs.SameTexts.{end_tables_lem, end_answers, same_texts, hold_same_rows}
use Rattle.replay_agreement.proofs.Buffers.{long_enough, enough, writes}

module _ (delay : ℕ) (s : List ℕ) (es : List Event) (trace : read_trace delay s ≡ Ok es) where
  clocks : InLineOrder delay es
  clocks = accepted_in_line_order delay s es trace

  -- an allowed order is never refused by 21 or 22, nor is the recorded order, which is allowed
  pub allowed_accepted : (o : List ℕ) → Allowed delay es o → check_order delay es o ≡ Ok tt
  allowed_accepted o a = (order_accepted_iff delay es clocks o).1 (a.order, a.keeps)

  pub recorded_is_allowed : Allowed delay es (recorded es)
  recorded_is_allowed = recorded_allowed delay es clocks

  pub recorded_is_accepted : check_order delay es (recorded es) ≡ Ok tt
  recorded_is_accepted = recorded_accepted delay es clocks

  module _ (t : List ℕ) (rs : List Row) (tables : read_tables t ≡ Ok rs) where
    -- buffers are long enough where they hold the texts
    pub room_enough : (o : List ℕ) → check_order delay es o ≡ Ok tt → (a b : ℕ)
        → length (tables_text (end_tables (operation_at es) o (tables_of rs))) ≤ a → length (answer_lines es o (tables_of rs)) ≤ b → LongEnough delay s t o a b
    room_enough o e a b = enough delay s t o (texts_of es o (tables_of rs)) a b (only_rooms delay s t o es rs trace tables e a b)

    -- replay follows document 01's rules: in every accepted order, given long enough buffers, it returns the lengths of the normal text
    -- of the end tables and of the answers' lines of that order, from the tables of the table text, and writes these two texts
    pub replay_follows : (o : List ℕ) → check_order delay es o ≡ Ok tt → (old old' : List ℕ) → LongEnough delay s t o (length old) (length old')
        → Writes delay (tables_text (end_tables (operation_at es) o (tables_of rs))) (answer_lines es o (tables_of rs)) s t o old old'
    replay_follows o e old old' long =
        let x = texts_of es o (tables_of rs) in
        let rooms = only_rooms delay s t o es rs trace tables e (length old) (length old') in
        writes delay s t o x old old' (rooms ∙ long_enough delay s t o x (length old) (length old') rooms long)

    -- in an allowed order the texts are those of the recorded order
    allowed_follows : (o : List ℕ) → Allowed delay es o → (old old' : List ℕ) → LongEnough delay s t o (length old) (length old')
        → Writes delay (tables_text (end_tables (operation_at es) (recorded es) (tables_of rs))) (answer_lines es (recorded es) (tables_of rs)) s t o old old'
    allowed_follows o a old old' long =
        subst (λ x. Writes delay x.tables x.answers s t o old old') (same_texts delay es clocks o a (tables_of rs) (accepted_table t rs tables)) (replay_follows o (allowed_accepted o a) old old' long)

  pub demand_3 : Demand3 delay s es
  demand_3 = record {
    tables = end_tables_lem delay es clocks;
    answered = end_answers delay es clocks;
    bytes = λ t u rs qs e f same o p a b old old' new new' long long'. (
      allowed_follows t rs e o a old old' long,
      subst (λ xs. Writes delay (tables_text (end_tables (operation_at es) (recorded es) (tables_of xs))) (answer_lines es (recorded es) (tables_of xs)) s u p new new') (sym (hold_same_rows t u rs qs e f same)) (allowed_follows u qs f p b new new' long'),
    );
  }
