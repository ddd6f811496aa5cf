-- Never more than 512 entries are held: from an accepted table text, after every part of any list of at most 256 events (`few_never_over`),
-- so of every accepted order of an accepted trace (`never_over`). With these only the buffers can be refused (`only_rooms`).
-- Assumes nothing.
use Rattle.std.specs.Prelude.{Ok}
use mathlib.Core.Path.{◌≡◌, refl}
use mathlib.Core.List.{List}
use Prim.Native.Nat.{ℕ, ◌≤◌}
use native.Mathlib.Omega.{arith}
use lib.ListN.{length, take, length-take}
use Rattle.order_meaning.proofs.Held.{held_run}
use Rattle.rows.specs.Rows.{tables_of}
use Rattle.trace_text.specs.TraceText.{read_trace}
use Rattle.trace_text.proofs.Accepted.{trace_accepted_iff}
use Rattle.tables_text.specs.TableText.{read_tables}
use Rattle.tables_text.proofs.Accepted.{accepted_length, accepted_held}
use Rattle.order_check.specs.Schedule.{check_order}
use Rattle.order_check.proofs.Accepted.{accepted_complete}
use Rattle.order_rows.specs.Runs.{operation_at}
use Rattle.order_rows.proofs.EndTables.{run_length}
use Rattle.replay_texts.specs.Inner.{fitting_both}
use Rattle.replay_call.specs.Types.{Event, Row}
use Rattle.replay_call.specs.Replay.{texts_of, replayed}
use Rattle.replay_call.specs.Held.{NeverOver}

-- at most 256 entries come in, and each of at most 256 events adds at most one
pub few_never_over : (t : List ℕ) (rs : List Row) → read_tables t ≡ Ok rs → (es : List Event) (o : List ℕ) → length o ≤ 256 → NeverOver es o rs
few_never_over t rs tables es o short = record {
  entries = λ k n. omega (arith, held_run n (operation_at es) (take k o) (tables_of rs), accepted_held t rs tables n, length-take k o);
  rows = λ k. omega (arith, run_length es (take k o) rs, accepted_length t rs tables, length-take k o);
}

module _ (delay : ℕ) (s t o : List ℕ) (es : List Event) (rs : List Row) (trace : read_trace delay s ≡ Ok es) (tables : read_tables t ≡ Ok rs) (order : check_order delay es o ≡ Ok tt) where
  pub never_over : NeverOver es o rs
  never_over = few_never_over t rs tables es o (omega (arith, ((trace_accepted_iff delay s es).0 trace).few, (accepted_complete delay es o order).size))

  -- 32, 33, or both texts
  pub only_rooms : (a b : ℕ) → replayed delay s t o a b ≡ fitting_both (texts_of es o (tables_of rs)) a b
  unfolding replayed
  only_rooms a b = rw (trace, tables, order) refl
