-- The refusal that a call tells is the first of document 01's list that applies, of the checks that concern what the call is given.
-- Assumes nothing.
use Rattle.std.specs.Prelude.{Ok, Err}
use mathlib.Core.Path.{◌≡◌, sym, subst, ◌∙◌}
use mathlib.Core.Bool.{true, true≢false}
use mathlib.Core.Logic.{◌↔◌}
use mathlib.Core.List.{List, [], ◌∷◌, ◌++◌, append-nil}
use Prim.Native.Nat.{ℕ}
use lib.ListN.{length}
use Rattle.basics.proofs.Booleans.{split}
use Rattle.refusals.specs.Checks.{Checked, ◌▹◌, refuse_if, refuse_short}
use Rattle.refusals.proofs.Checks.{same_value}
use Rattle.trace_text.specs.TraceText.{read_trace}
use Rattle.trace_text.specs.Meaning.{IsTrace}
use Rattle.trace_events.specs.Clocks.{InLineOrder}
use Rattle.trace_text.proofs.Accepted.{trace_accepted_iff, accepted_in_line_order}
use Rattle.tables_text.specs.TableText.{read_tables}
use Rattle.tables_text.specs.Meaning.{IsTables}
use Rattle.tables_text.proofs.Meaning.{tables_accepted_iff}
use Rattle.tables_normal.specs.Normal.{normal_text, normalised}
use Rattle.list_pairs.specs.List.{list_of, pair_bytes, counts_of, listing_of}
use Rattle.list_call.specs.Races.{list_races}
use Rattle.page_text.specs.Page.{page_text}
use Rattle.page_call.specs.Paged.{paged}
use Rattle.share.specs.Share.{share_of}
use Rattle.share_call.specs.Shared.{shared}
use Rattle.rows.specs.Rows.{tables_of}
use Rattle.order_check.specs.Schedule.{check_order}
use Rattle.replay_texts.specs.Inner.{fitting_both}
use Rattle.replay_call.specs.Replay.{texts_of, replayed}
use Rattle.replay_call.specs.Inner.{from_tables}
use Rattle.order_trials.specs.Trials.{uneven, order_bytes}
use Rattle.order_trials.proofs.Counting.{even_iff}
use Rattle.trials_call.specs.Tried.{tried}
use Rattle.trials_call.specs.Inner.{tried_from}
use Rattle.refusals_order.specs.Types.{Refusal, Event, Row}
use Rattle.refusals_order.specs.Causes.{Cause, FirstOf, Of}
use Rattle.refusals_order.specs.Traces.{trace_causes}
use Rattle.refusals_order.specs.Tables.{tables_causes}
use Rattle.refusals_order.specs.Orders.{incomplete_cause, early_put_cause, order_causes}
use Rattle.refusals_order.specs.Calls.{short_cause, list_causes, page_causes, share_causes, normal_causes, OfBoth, end_short_cause, answers_short_cause, replay_causes, Uneven, uneven_cause, trials_short_cause, trials_causes}
use Rattle.refusals_order.proofs.Causes.{Same, Tells, tells_same, then_tells, when_tells, short_tells, never_tells, of_said}
use Rattle.refusals_order.proofs.Traces.{trace_tells}
use Rattle.refusals_order.proofs.Tables.{tables_tell}
use Rattle.refusals_order.proofs.Orders.{order_tells}

-- what an accepted text says, and nothing else
module _ {A : Type 0} (x : Checked A) (Says : A → Type 0) (iff : (a : A) → (x ≡ Ok a) ↔ Says a) (a : A) (e : x ≡ Ok a) where
  pub said_of_lem : (c : A → Cause) (r : Refusal) → c a r ↔ Of Says c r
  said_of_lem = of_said Says a ((iff a).0 e) (λ b t. same_value (sym ((iff b).1 t) ∙ e))

-- the last check: the room for what is written
room_tells : {B : Type 0} (room : ℕ) (refusal : ℕ → Refusal) (text : List ℕ) (value : B) → Tells (refuse_short room text refusal ▹ λ _. Ok value) (short_cause room refusal text ∷ [])
room_tells room refusal text value = then_tells (refuse_short room text refusal) (λ _. Ok value) (short_cause room refusal text ∷ []) [] (short_tells room text refusal) (λ _ f. never_tells value)

-- that check after an accepted text, of what the text says
then_short : {A B : Type 0} (x : Checked A) (Says : A → Type 0) → ((a : A) → (x ≡ Ok a) ↔ Says a) → (cs : List Cause) → Tells x cs
    → (room : ℕ) (refusal : ℕ → Refusal) (text : A → List ℕ) (value : A → B) → Tells (x ▹ λ a. refuse_short room (text a) refusal ▹ λ _. Ok (value a)) (cs ++ (Of Says (λ a. short_cause room refusal (text a)) ∷ []))
then_short x Says iff cs t room refusal text value =
    then_tells x (λ a. refuse_short room (text a) refusal ▹ λ _. Ok (value a)) cs (Of Says (λ a. short_cause room refusal (text a)) ∷ []) t
    (λ a e. tells_same (refuse_short room (text a) refusal ▹ λ _. Ok (value a)) (short_cause room refusal (text a) ∷ [])
    (room_tells room refusal (text a) (value a))
    (Of Says (λ b. short_cause room refusal (text b)) ∷ [])
    (said_of_lem x Says iff a e (λ b. short_cause room refusal (text b)), tt))

-- THE refusal of the list call: the first of 1 to 8, 54, 55, 31 that applies
pub list_refused_iff : (delay : ℕ) (trace : List ℕ) (room : ℕ) (r : Refusal) → (list_races delay trace room ≡ Err r) ↔ FirstOf (list_causes delay trace room) r
unfolding list_races list_causes
list_refused_iff delay trace room = then_short (read_trace delay trace) (IsTrace delay trace) (trace_accepted_iff delay trace) (trace_causes delay trace) (trace_tells delay trace) room Refusal.ListShort (λ es. pair_bytes (list_of delay es)) (listing_of delay)

-- THE refusal of the page: the first of 1 to 8, 54, 55, 51 that applies
pub page_refused_iff : (delay : ℕ) (trace : List ℕ) (room : ℕ) (r : Refusal) → (paged delay trace room ≡ Err r) ↔ FirstOf (page_causes delay trace room) r
unfolding paged page_causes
page_refused_iff delay trace room = then_short (read_trace delay trace) (IsTrace delay trace) (trace_accepted_iff delay trace) (trace_causes delay trace) (trace_tells delay trace) room Refusal.PageShort (page_text delay) (page_text delay)

-- no check follows an accepted text
then_none : {A B : Type 0} (x : Checked A) (cs : List Cause) → Tells x cs → (value : A → B) → Tells (x ▹ λ a. Ok (value a)) cs
then_none x cs t value =
    subst (Tells (x ▹ λ a. Ok (value a))) (append-nil cs) (then_tells x (λ a. Ok (value a)) cs [] t (λ a e. never_tells (value a)))

-- THE refusal of the share: the first of 1 to 8 that applies
pub share_refused_iff : (delay : ℕ) (trace : List ℕ) (r : Refusal) → (shared delay trace ≡ Err r) ↔ FirstOf (share_causes delay trace) r
unfolding shared
share_refused_iff delay trace = then_none (read_trace delay trace) (trace_causes delay trace) (trace_tells delay trace) (λ es. share_of (counts_of delay es))

-- THE refusal of the normaliser: the first of 11 to 16, 32 that applies
pub normal_refused_iff : (tables : List ℕ) (room : ℕ) (r : Refusal) → (normalised tables room ≡ Err r) ↔ FirstOf (normal_causes tables room) r
unfolding normalised normal_causes
normal_refused_iff tables room = then_short (read_tables tables) (IsTables tables) (tables_accepted_iff tables) (tables_causes tables) (tables_tell tables) room Refusal.TablesShort normal_text normal_text

-- ---- a trace and a table text
module _ (delay : ℕ) (trace tables : List ℕ) where
  module _ (es : List Event) (e : read_trace delay trace ≡ Ok es) where
    by_trace : (c : List Event → Cause) (r : Refusal) → c es r ↔ Of (IsTrace delay trace) c r
    by_trace = said_of_lem (read_trace delay trace) (IsTrace delay trace) (trace_accepted_iff delay trace) es e

    by_both : (rs : List Row) → read_tables tables ≡ Ok rs → (c : List Event → List Row → Cause) (r : Refusal) → c es rs r ↔ OfBoth delay trace tables c r
    by_both rs f c r =
        let inner = said_of_lem (read_tables tables) (IsTables tables) (tables_accepted_iff tables) rs f (c es) r in
        let outer = by_trace (λ v. Of (IsTables tables) (c v)) r in
        (λ h. outer.0 (inner.0 h), λ h. inner.1 (outer.1 h))

  -- checks that follow both texts, of what they say
  both_tell : {A : Type 0} (next : List Event → List Row → Checked A) (causes : List Event → List Row → List Cause) → ((es : List Event) → read_trace delay trace ≡ Ok es → (rs : List Row) → Tells (next es rs) (causes es rs))
      → (rest : List Cause) → ((es : List Event) → read_trace delay trace ≡ Ok es → (rs : List Row) → read_tables tables ≡ Ok rs → Same (causes es rs) rest)
      → Tells (read_trace delay trace ▹ λ es. read_tables tables ▹ λ rs. next es rs) (trace_causes delay trace ++ (tables_causes tables ++ rest))
  both_tell next causes tells rest same =
      then_tells (read_trace delay trace) (λ es. read_tables tables ▹ λ rs. next es rs) (trace_causes delay trace) (tables_causes tables ++ rest) (trace_tells delay trace)
      (λ es e. then_tells (read_tables tables) (λ rs. next es rs) (tables_causes tables) rest (tables_tell tables)
      (λ rs f. tells_same (next es rs) (causes es rs) (tells es e rs) rest (same es e rs f)))

-- ---- replay
module _ (delay : ℕ) (trace tables o : List ℕ) (room room' : ℕ) where
  module _ (es : List Event) (rs : List Row) where
    abbrev causes : List Cause
    causes = incomplete_cause o es ∷ early_put_cause delay o es ∷ end_short_cause o room es rs ∷ answers_short_cause o room' es rs ∷ []

    replay_tells : InLineOrder delay es → Tells (from_tables delay es (tables_of rs) o room room') causes
    unfolding order_causes
    replay_tells clocks =
        let texts = texts_of es o (tables_of rs) in
        then_tells (check_order delay es o) (λ _. fitting_both texts room room') (order_causes delay o es) (end_short_cause o room es rs ∷ answers_short_cause o room' es rs ∷ [])
        (order_tells delay es clocks o)
        (λ _ a. then_tells (refuse_short room texts.tables Refusal.TablesShort) (λ _. refuse_short room' texts.answers Refusal.AnswersShort ▹ λ _. Ok texts)
        (end_short_cause o room es rs ∷ []) (answers_short_cause o room' es rs ∷ [])
        (short_tells room texts.tables Refusal.TablesShort)
        (λ _ b. room_tells room' Refusal.AnswersShort texts.answers texts))

  -- THE refusal of a replay: the first of 1 to 8, 54, 55, 11 to 16, 21, 22, 32, 33 that applies
  pub replay_refused_iff : (r : Refusal) → (replayed delay trace tables o room room' ≡ Err r) ↔ FirstOf (replay_causes delay trace tables o room room') r
  unfolding replayed replay_causes
  replay_refused_iff =
      both_tell delay trace tables (λ es rs. from_tables delay es (tables_of rs) o room room') causes (λ es e rs. replay_tells es rs (accepted_in_line_order delay trace es e))
      (Of (IsTrace delay trace) (incomplete_cause o) ∷ Of (IsTrace delay trace) (early_put_cause delay o) ∷ OfBoth delay trace tables (end_short_cause o room) ∷ OfBoth delay trace tables (answers_short_cause o room') ∷ [])
      (λ es e rs f. (
        by_trace delay trace tables es e (incomplete_cause o),
        (by_trace delay trace tables es e (early_put_cause delay o), (by_both delay trace tables es e rs f (end_short_cause o room), (by_both delay trace tables es e rs f (answers_short_cause o room'), tt))),
      ))

-- ---- many orders
uneven_iff : (es : List Event) (os : List ℕ) → (uneven (length es) (length os) ≡ true) ↔ Uneven es os
uneven_iff es os = (
  λ u m e. true≢false (sym u ∙ (even_iff (length es) (length os)).1 (m, e)),
  λ h. split (uneven (length es) (length os)) (λ u. u) (λ z. let (m, e) = (even_iff (length es) (length os)).0 z in absurd (h m e)),
)

module _ (delay : ℕ) (trace tables os : List ℕ) (room : ℕ) where
  tried_tells : (es : List Event) (rs : List Row) → Tells (tried_from delay es (tables_of rs) os room) (uneven_cause os es ∷ trials_short_cause delay os room es rs ∷ [])
  tried_tells es rs =
      let bytes = order_bytes delay es (tables_of rs) os in
      then_tells (refuse_if (uneven (length es) (length os)) Refusal.OrdersUneven) (λ _. refuse_short room bytes Refusal.TrialsShort ▹ λ _. Ok bytes)
      (uneven_cause os es ∷ []) (trials_short_cause delay os room es rs ∷ [])
      (when_tells (uneven (length es) (length os)) (Uneven es os) (uneven_iff es os) Refusal.OrdersUneven)
      (λ _ a. room_tells room Refusal.TrialsShort bytes bytes)

  -- THE refusal of the call that tries orders: the first of 1 to 8, 54, 55, 11 to 16, 52, 53 that applies
  pub trials_refused_iff : (r : Refusal) → (tried delay trace tables os room ≡ Err r) ↔ FirstOf (trials_causes delay trace tables os room) r
  unfolding tried trials_causes
  trials_refused_iff =
      both_tell delay trace tables (λ es rs. tried_from delay es (tables_of rs) os room) (λ es rs. uneven_cause os es ∷ trials_short_cause delay os room es rs ∷ []) (λ es _. tried_tells es)
      (Of (IsTrace delay trace) (uneven_cause os) ∷ OfBoth delay trace tables (trials_short_cause delay os room) ∷ [])
      (λ es e rs f. (by_trace delay trace tables es e (uneven_cause os), (by_both delay trace tables es e rs f (trials_short_cause delay os room), tt)))
