-- Document 01, "Refusal table", the order of checks: each call makes those checks that concern what it is given.
use Rattle.std.specs.Prelude.{List, [], ◌∷◌, ◌++◌, ◌≡◌, ℕ, ◌*◌, ◌<◌, length}
use Rattle.trace_text.specs.Meaning.{IsTrace}
use Rattle.tables_text.specs.Meaning.{IsTables}
use Rattle.rows.specs.Rows.{tables_of}
use Rattle.tables_normal.specs.Normal.{normal_text, tables_text}
use Rattle.list_pairs.specs.List.{list_of, pair_bytes}
use Rattle.page_text.specs.Page.{page_text}
use Rattle.order_meaning.specs.Tables.{end_tables}
use Rattle.order_rows.specs.Runs.{operation_at}
use Rattle.order_trials.specs.Trials.{order_bytes}
use Rattle.replay_call.specs.Replay.{answer_lines}
use Rattle.refusals_order.specs.Types.{Refusal, Event, Row}
use Rattle.refusals_order.specs.Causes.{Cause, When, Of}
use Rattle.refusals_order.specs.Traces.{trace_causes}
use Rattle.refusals_order.specs.Tables.{tables_causes}
use Rattle.refusals_order.specs.Orders.{incomplete_cause, early_put_cause}

-- 31, 32, 33, 51, 53: a buffer is too short for a text; the bytes needed
abbrev pub short_cause : ℕ → (ℕ → Refusal) → List ℕ → Cause
short_cause room refusal text = When (room < length text) (refusal (length text))

-- the list call: 1 to 8, 54, 55; 31
unfoldable pub list_causes : ℕ → List ℕ → ℕ → List Cause
list_causes delay trace room = trace_causes delay trace ++ (Of (IsTrace delay trace) (λ es. short_cause room Refusal.ListShort (pair_bytes (list_of delay es))) ∷ [])

-- the page: 1 to 8, 54, 55; 51
unfoldable pub page_causes : ℕ → List ℕ → ℕ → List Cause
page_causes delay trace room = trace_causes delay trace ++ (Of (IsTrace delay trace) (λ es. short_cause room Refusal.PageShort (page_text delay es)) ∷ [])

-- the share: 1 to 8, 54, 55
abbrev pub share_causes : ℕ → List ℕ → List Cause
share_causes delay trace = trace_causes delay trace

-- the normaliser: 11 to 16; 32
unfoldable pub normal_causes : List ℕ → ℕ → List Cause
normal_causes tables room = tables_causes tables ++ (Of (IsTables tables) (λ rs. short_cause room Refusal.TablesShort (normal_text rs)) ∷ [])

-- a cause that speaks of what both texts say
abbrev pub OfBoth : ℕ → List ℕ → List ℕ → (List Event → List Row → Cause) → Cause
OfBoth delay trace tables c = Of (IsTrace delay trace) (λ es. Of (IsTables tables) (λ rs. c es rs))

-- ---- replay
-- 32: the normal text of the end tables
abbrev pub end_short_cause : List ℕ → ℕ → List Event → List Row → Cause
end_short_cause o room es rs = short_cause room Refusal.TablesShort (tables_text (end_tables (operation_at es) o (tables_of rs)))

-- 33: the answer lines
abbrev pub answers_short_cause : List ℕ → ℕ → List Event → List Row → Cause
answers_short_cause o room es rs = short_cause room Refusal.AnswersShort (answer_lines es o (tables_of rs))

-- 1 to 8, 54, 55; 11 to 16; 21, 22; 32; 33
unfoldable pub replay_causes : ℕ → List ℕ → List ℕ → List ℕ → ℕ → ℕ → List Cause
replay_causes delay trace tables o room room' =
    trace_causes delay trace
    ++ (tables_causes tables
    ++ (Of (IsTrace delay trace) (incomplete_cause o)
    ∷ Of (IsTrace delay trace) (early_put_cause delay o)
    ∷ OfBoth delay trace tables (end_short_cause o room)
    ∷ OfBoth delay trace tables (answers_short_cause o room')
    ∷ []))

-- ---- many orders
-- 52: the length of the orders is no multiple of the number of events; of no events only 0 is one
abbrev pub Uneven : List Event → List ℕ → Type 0
Uneven es os = (m : ℕ) → length os ≡ m * length es → ⊥

abbrev pub uneven_cause : List ℕ → List Event → Cause
uneven_cause os es = When (Uneven es os) Refusal.OrdersUneven

-- 53: a byte an order
abbrev pub trials_short_cause : ℕ → List ℕ → ℕ → List Event → List Row → Cause
trials_short_cause delay os room es rs = short_cause room Refusal.TrialsShort (order_bytes delay es (tables_of rs) os)

-- 1 to 8, 54, 55; 11 to 16; 52; 53
unfoldable pub trials_causes : ℕ → List ℕ → List ℕ → List ℕ → ℕ → List Cause
trials_causes delay trace tables os room =
    trace_causes delay trace
    ++ (tables_causes tables
    ++ (Of (IsTrace delay trace) (uneven_cause os)
    ∷ OfBoth delay trace tables (trials_short_cause delay os room)
    ∷ []))
