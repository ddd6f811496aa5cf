-- Demand 1, whole: of every call, for all texts, orders and buffer lengths, what it returns and what it leaves in each buffer that it is
-- lent: the one refusal that the order of checks picks, the buffers unchanged; or the result. By its contract a call returns and
-- leaves just this, and Rattle proves of every function that it ends without a fault.
use Rattle.std.specs.Prelude.{◌≡◌, List, ◌⊎◌, ℕ, length, Ok, Err}
use Rattle.basics.specs.Text.{starting_with}
use Rattle.refusals.specs.Checks.{written}
use Rattle.trace_text.specs.Meaning.{IsTrace}
use Rattle.tables_text.specs.Meaning.{IsTables}
use Rattle.rows.specs.Rows.{tables_of}
use Rattle.tables_normal.specs.Normal.{normal_text, tables_text, normalised, normal_answer}
use Rattle.list_pairs.specs.List.{list_of, pair_bytes, counts_of}
use Rattle.list_call.specs.Races.{list_races, list_answer, list_out}
use Rattle.page_text.specs.Page.{page_text}
use Rattle.page_call.specs.Paged.{paged, page_answer}
use Rattle.share.specs.Share.{share_of}
use Rattle.share_call.specs.Shared.{shared}
use Rattle.order_meaning.specs.Tables.{end_tables}
use Rattle.order_rows.specs.Runs.{operation_at}
use Rattle.replay_texts.specs.Writing.{replay_answer, tables_to_write, answers_to_write}
use Rattle.replay_call.specs.Replay.{answer_lines, replayed}
use Rattle.order_trials.specs.Trials.{order_bytes}
use Rattle.trials_call.specs.Tried.{tried, trials_answer}
use Rattle.refusals_order.specs.Types.{Refusal, Event, Row}
use Rattle.refusals_order.specs.Causes.{FirstOf, NoneOf}
use Rattle.refusals_order.specs.Calls.{list_causes, page_causes, share_causes, normal_causes, replay_causes, trials_causes}

-- ---- the list call on a trace and a buffer
module _ (delay : ℕ) (trace old : List ℕ) where
  pub record ListRefused : Type 0 where
    pub refusal : Refusal
    pub first : FirstOf (list_causes delay trace (length old)) refusal
    pub returned : list_answer (list_races delay trace (length old)) ≡ Err refusal
    pub unchanged : written (list_out (list_races delay trace (length old))) old ≡ old

  pub record ListDone : Type 0 where
    pub none : NoneOf (list_causes delay trace (length old))
    pub events : List Event
    pub accepted : IsTrace delay trace events
    pub returned : list_answer (list_races delay trace (length old)) ≡ Ok (counts_of delay events)
    pub bytes : written (list_out (list_races delay trace (length old))) old ≡ starting_with (pair_bytes (list_of delay events)) old

-- ---- the page call on a trace and a buffer
module _ (delay : ℕ) (trace old : List ℕ) where
  pub record PageRefused : Type 0 where
    pub refusal : Refusal
    pub first : FirstOf (page_causes delay trace (length old)) refusal
    pub returned : page_answer (paged delay trace (length old)) ≡ Err refusal
    pub unchanged : written (paged delay trace (length old)) old ≡ old

  pub record PageDone : Type 0 where
    pub none : NoneOf (page_causes delay trace (length old))
    pub events : List Event
    pub accepted : IsTrace delay trace events
    pub returned : page_answer (paged delay trace (length old)) ≡ Ok (length (page_text delay events))
    pub bytes : written (paged delay trace (length old)) old ≡ starting_with (page_text delay events) old

-- ---- the share call on a trace
module _ (delay : ℕ) (trace : List ℕ) where
  pub record ShareRefused : Type 0 where
    pub refusal : Refusal
    pub first : FirstOf (share_causes delay trace) refusal
    pub returned : shared delay trace ≡ Err refusal

  pub record ShareDone : Type 0 where
    pub none : NoneOf (share_causes delay trace)
    pub events : List Event
    pub accepted : IsTrace delay trace events
    pub returned : shared delay trace ≡ Ok (share_of (counts_of delay events))

-- ---- the normaliser on a table text and a buffer
module _ (tables old : List ℕ) where
  pub record NormalRefused : Type 0 where
    pub refusal : Refusal
    pub first : FirstOf (normal_causes tables (length old)) refusal
    pub returned : normal_answer (normalised tables (length old)) ≡ Err refusal
    pub unchanged : written (normalised tables (length old)) old ≡ old

  pub record NormalDone : Type 0 where
    pub none : NoneOf (normal_causes tables (length old))
    pub rows : List Row
    pub accepted : IsTables tables rows
    pub returned : normal_answer (normalised tables (length old)) ≡ Ok (length (normal_text rows))
    pub bytes : written (normalised tables (length old)) old ≡ starting_with (normal_text rows) old

-- ---- replay on a trace, a table text, an order and two buffers
module _ (delay : ℕ) (trace tables o old old' : List ℕ) where
  pub record ReplayRefused : Type 0 where
    pub refusal : Refusal
    pub first : FirstOf (replay_causes delay trace tables o (length old) (length old')) refusal
    pub returned : replay_answer (replayed delay trace tables o (length old) (length old')) ≡ Err refusal
    pub unchanged : written (tables_to_write (replayed delay trace tables o (length old) (length old'))) old ≡ old
    pub unchanged' : written (answers_to_write (replayed delay trace tables o (length old) (length old'))) old' ≡ old'

  pub record ReplayDone : Type 0 where
    pub none : NoneOf (replay_causes delay trace tables o (length old) (length old'))
    pub events : List Event
    pub rows : List Row
    pub accepted : IsTrace delay trace events
    pub held : IsTables tables rows
    -- the normal text of the end tables, and the answer lines
    pub ends : List ℕ
    pub lines : List ℕ
    pub ends_are : ends ≡ tables_text (end_tables (operation_at events) o (tables_of rows))
    pub lines_are : lines ≡ answer_lines events o (tables_of rows)
    pub returned : replay_answer (replayed delay trace tables o (length old) (length old')) ≡ Ok (length ends, length lines)
    pub bytes : written (tables_to_write (replayed delay trace tables o (length old) (length old'))) old ≡ starting_with ends old
    pub bytes' : written (answers_to_write (replayed delay trace tables o (length old) (length old'))) old' ≡ starting_with lines old'

-- ---- many orders, end to end, on a trace, a table text and a buffer
module _ (delay : ℕ) (trace tables os old : List ℕ) where
  pub record TrialsRefused : Type 0 where
    pub refusal : Refusal
    pub first : FirstOf (trials_causes delay trace tables os (length old)) refusal
    pub returned : trials_answer (tried delay trace tables os (length old)) ≡ Err refusal
    pub unchanged : written (tried delay trace tables os (length old)) old ≡ old

  pub record TrialsDone : Type 0 where
    pub none : NoneOf (trials_causes delay trace tables os (length old))
    pub events : List Event
    pub rows : List Row
    pub accepted : IsTrace delay trace events
    pub held : IsTables tables rows
    -- a byte an order
    pub bytes : List ℕ
    pub bytes_are : bytes ≡ order_bytes delay events (tables_of rows) os
    pub returned : trials_answer (tried delay trace tables os (length old)) ≡ Ok (length bytes)
    pub buffer : written (tried delay trace tables os (length old)) old ≡ starting_with bytes old

pub record Demand1 (delay : ℕ) : Type 0 where
  pub list : (trace old : List ℕ) → ListRefused delay trace old ⊎ ListDone delay trace old
  pub page : (trace old : List ℕ) → PageRefused delay trace old ⊎ PageDone delay trace old
  pub share : (trace : List ℕ) → ShareRefused delay trace ⊎ ShareDone delay trace
  pub normalise : (tables old : List ℕ) → NormalRefused tables old ⊎ NormalDone tables old
  pub replay : (trace tables o old old' : List ℕ) → ReplayRefused delay trace tables o old old' ⊎ ReplayDone delay trace tables o old old'
  pub trials : (trace tables os old : List ℕ) → TrialsRefused delay trace tables os old ⊎ TrialsDone delay trace tables os old
