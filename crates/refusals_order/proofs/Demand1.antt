-- Demand 1, whole (`demand_1`): each call refuses by the first cause that applies and leaves its buffers as they were, or else returns
-- and writes the result. Assumes nothing.
use Rattle.std.specs.Prelude.{Ok, Err}
use mathlib.Core.Path.{◌≡◌, refl, sym, ap, ◌∙◌}
use mathlib.Core.List.{List}
use mathlib.Core.Logic.{◌⊎◌, inl, inr}
use Prim.Native.Nat.{ℕ}
use lib.ListN.{length}
use Rattle.basics.specs.Text.{starting_with}
use Rattle.refusals.specs.Checks.{Checked, ◌▹◌, refuse_if, refuse_short, written}
use Rattle.refusals.proofs.Checks.{same_value, handed_on}
use Rattle.trace_text.specs.TraceText.{read_trace}
use Rattle.trace_text.proofs.Accepted.{trace_accepted_iff}
use Rattle.tables_text.specs.TableText.{read_tables}
use Rattle.tables_text.proofs.Meaning.{tables_accepted_iff}
use Rattle.tables_normal.specs.Normal.{normal_text, normalised, normal_answer}
use Rattle.list_pairs.specs.List.{Listing, list_of, pair_bytes, counts_of, listing_of}
use Rattle.list_call.specs.Races.{list_races, list_answer, list_out}
use Rattle.page_text.specs.Page.{page_text}
use Rattle.page_call.specs.Paged.{paged, page_answer}
use Rattle.share.specs.Share.{share_of}
use Rattle.share_call.specs.Shared.{shared}
use Rattle.replay_texts.specs.Writing.{Replayed, replay_answer, tables_to_write, answers_to_write}
use Rattle.rows.specs.Rows.{tables_of}
use Rattle.order_check.specs.Schedule.{check_order}
use Rattle.replay_texts.specs.Inner.{fitting_both}
use Rattle.replay_call.specs.Replay.{texts_of, replayed}
use Rattle.replay_call.specs.Inner.{from_tables}
use Rattle.order_trials.specs.Trials.{uneven, order_bytes}
use Rattle.trials_call.specs.Tried.{tried, trials_answer}
use Rattle.trials_call.specs.Inner.{tried_from}
use Rattle.refusals_order.specs.Types.{Refusal, Event, Row, Share}
use Rattle.refusals_order.specs.Calls.{list_causes, page_causes, share_causes, normal_causes, replay_causes, trials_causes}
use Rattle.refusals_order.specs.Demand1.{ListRefused, ListDone, PageRefused, PageDone, ShareRefused, ShareDone, NormalRefused, NormalDone, ReplayRefused, ReplayDone, TrialsRefused, TrialsDone, Demand1}
use Rattle.refusals_order.proofs.Causes.{handed_none}
use Rattle.refusals_order.proofs.Calls.{list_refused_iff, page_refused_iff, share_refused_iff, normal_refused_iff, replay_refused_iff, trials_refused_iff}

-- ---- what an accepted input hands on
module _ {A B : Type 0} (x : Checked A) (room : ℕ) (text : A → List ℕ) (refusal : ℕ → Refusal) (value : A → B) {b : B} where
  fits_on : (x ▹ λ a. refuse_short room (text a) refusal ▹ λ _. Ok (value a)) ≡ Ok b → (a : A) × (x ≡ Ok a) × (value a ≡ b)
  fits_on h =
      let (a, e, f) = handed_on x (λ a. refuse_short room (text a) refusal ▹ λ _. Ok (value a)) h in
      (a, e, same_value (handed_on (refuse_short room (text a) refusal) (λ _. Ok (value a)) f).2)

listed_on : (delay : ℕ) (trace : List ℕ) (room : ℕ) (l : Listing) → list_races delay trace room ≡ Ok l → (es : List Event) × (read_trace delay trace ≡ Ok es) × (listing_of delay es ≡ l)
unfolding list_races
listed_on delay trace room l h = fits_on (read_trace delay trace) room (λ es. pair_bytes (list_of delay es)) Refusal.ListShort (listing_of delay) h

page_on : (delay : ℕ) (trace : List ℕ) (room : ℕ) (t : List ℕ) → paged delay trace room ≡ Ok t → (es : List Event) × (read_trace delay trace ≡ Ok es) × (page_text delay es ≡ t)
unfolding paged
page_on delay trace room t h = fits_on (read_trace delay trace) room (page_text delay) Refusal.PageShort (page_text delay) h

shared_on : (delay : ℕ) (trace : List ℕ) (x : Share) → shared delay trace ≡ Ok x → (es : List Event) × (read_trace delay trace ≡ Ok es) × (share_of (counts_of delay es) ≡ x)
unfolding shared
shared_on delay trace x h =
    let (es, e, f) = handed_on (read_trace delay trace) (λ es. Ok (share_of (counts_of delay es))) h in
    (es, e, same_value f)

normal_on : (tables : List ℕ) (room : ℕ) (t : List ℕ) → normalised tables room ≡ Ok t → (rs : List Row) × (read_tables tables ≡ Ok rs) × (normal_text rs ≡ t)
unfolding normalised
normal_on tables room t h = fits_on (read_tables tables) room normal_text Refusal.TablesShort normal_text h

-- what follows both texts
both_on : (delay : ℕ) {A : Type 0} (trace tables : List ℕ) (next : List Event → List Row → Checked A) {x : A} → (read_trace delay trace ▹ λ es. read_tables tables ▹ λ rs. next es rs) ≡ Ok x
    → (es : List Event) × (read_trace delay trace ≡ Ok es) × ((rs : List Row) × (read_tables tables ≡ Ok rs) × (next es rs ≡ Ok x))
both_on delay trace tables next h =
    let (es, e, f) = handed_on (read_trace delay trace) (λ es. read_tables tables ▹ λ rs. next es rs) h in
    (es, e, handed_on (read_tables tables) (λ rs. next es rs) f)

module _ (delay : ℕ) (trace tables o : List ℕ) (room room' : ℕ) (x : Replayed) where
  texts_on : (es : List Event) (rs : List Row) → from_tables delay es (tables_of rs) o room room' ≡ Ok x → texts_of es o (tables_of rs) ≡ x
  texts_on es rs h =
      let texts = texts_of es o (tables_of rs) in
      let ordered = handed_on (check_order delay es o) (λ _. fitting_both texts room room') h in
      (fits_on (refuse_short room texts.tables Refusal.TablesShort) room' (λ _. texts.answers) Refusal.AnswersShort (λ _. texts) ordered.2).2

  replayed_on : replayed delay trace tables o room room' ≡ Ok x
      → (es : List Event) × (read_trace delay trace ≡ Ok es) × ((rs : List Row) × (read_tables tables ≡ Ok rs) × (texts_of es o (tables_of rs) ≡ x))
  unfolding replayed
  replayed_on h =
      let (es, e, (rs, k, g)) = both_on delay trace tables (λ es rs. from_tables delay es (tables_of rs) o room room') h in
      (es, e, (rs, k, texts_on es rs g))

module _ (delay : ℕ) (trace tables os : List ℕ) (room : ℕ) (x : List ℕ) where
  tried_on : tried delay trace tables os room ≡ Ok x
      → (es : List Event) × (read_trace delay trace ≡ Ok es) × ((rs : List Row) × (read_tables tables ≡ Ok rs) × (order_bytes delay es (tables_of rs) os ≡ x))
  unfolding tried
  tried_on h =
      let (es, e, (rs, k, g)) = both_on delay trace tables (λ es rs. tried_from delay es (tables_of rs) os room) h in
      let bytes = order_bytes delay es (tables_of rs) os in
      let (u, v, f) = fits_on (refuse_if (uneven (length es) (length os)) Refusal.OrdersUneven) room (λ _. bytes) Refusal.TrialsShort (λ _. bytes) g in
      (es, e, (rs, k, f))

-- ---- the calls
module _ (delay : ℕ) (trace : List ℕ) (room : ℕ) (es : List Event) (g : list_races delay trace room ≡ Ok (listing_of delay es)) where
  counts_of_lem : list_answer (list_races delay trace room) ≡ Ok (counts_of delay es)
  unfolding listing_of
  counts_of_lem = ap list_answer g

  bytes_of : (old : List ℕ) → written (list_out (list_races delay trace room)) old ≡ starting_with (pair_bytes (list_of delay es)) old
  unfolding listing_of
  bytes_of old = ap (λ y. written (list_out y) old) g

list_does : (delay : ℕ) (trace old : List ℕ) → ListRefused delay trace old ⊎ ListDone delay trace old
list_does delay trace old = go (list_races delay trace (length old)) refl
  where
    go : (y : Checked Listing) → list_races delay trace (length old) ≡ y → ListRefused delay trace old ⊎ ListDone delay trace old
    go (Err r) e = inl (record {
      refusal = r;
      first = (list_refused_iff delay trace (length old) r).0 e;
      returned = ap list_answer e;
      unchanged = ap (λ y. written (list_out y) old) e;
    })
    go (Ok l) e =
        let (es, h, f) = listed_on delay trace (length old) l e in
        let g : list_races delay trace (length old) ≡ Ok (listing_of delay es) = e ∙ ap Ok (sym f) in
        inr (record {
          none = (handed_none (list_races delay trace (length old)) (list_causes delay trace (length old)) (list_refused_iff delay trace (length old))).0 (l, e);
          events = es;
          accepted = (trace_accepted_iff delay trace es).0 h;
          returned = counts_of_lem delay trace (length old) es g;
          bytes = bytes_of delay trace (length old) es g old;
        })

page_does : (delay : ℕ) (trace old : List ℕ) → PageRefused delay trace old ⊎ PageDone delay trace old
page_does delay trace old = go (paged delay trace (length old)) refl
  where
    go : (y : Checked (List ℕ)) → paged delay trace (length old) ≡ y → PageRefused delay trace old ⊎ PageDone delay trace old
    go (Err r) e = inl (record {
      refusal = r;
      first = (page_refused_iff delay trace (length old) r).0 e;
      returned = ap page_answer e;
      unchanged = ap (λ y. written y old) e;
    })
    go (Ok t) e =
        let (es, h, f) = page_on delay trace (length old) t e in
        let g : paged delay trace (length old) ≡ Ok (page_text delay es) = e ∙ ap Ok (sym f) in
        inr (record {
          none = (handed_none (paged delay trace (length old)) (page_causes delay trace (length old)) (page_refused_iff delay trace (length old))).0 (t, e);
          events = es;
          accepted = (trace_accepted_iff delay trace es).0 h;
          returned = ap page_answer g;
          bytes = ap (λ y. written y old) g;
        })

share_does : (delay : ℕ) (trace : List ℕ) → ShareRefused delay trace ⊎ ShareDone delay trace
share_does delay trace = go (shared delay trace) refl
  where
    go : (y : Checked Share) → shared delay trace ≡ y → ShareRefused delay trace ⊎ ShareDone delay trace
    go (Err r) e = inl (record { refusal = r; first = (share_refused_iff delay trace r).0 e; returned = e })
    go (Ok x) e =
        let (es, h, f) = shared_on delay trace x e in
        inr (record {
          none = (handed_none (shared delay trace) (share_causes delay trace) (share_refused_iff delay trace)).0 (x, e);
          events = es;
          accepted = (trace_accepted_iff delay trace es).0 h;
          returned = e ∙ ap Ok (sym f);
        })

normal_does : (tables old : List ℕ) → NormalRefused tables old ⊎ NormalDone tables old
normal_does tables old = go (normalised tables (length old)) refl
  where
    go : (y : Checked (List ℕ)) → normalised tables (length old) ≡ y → NormalRefused tables old ⊎ NormalDone tables old
    go (Err r) e = inl (record {
      refusal = r;
      first = (normal_refused_iff tables (length old) r).0 e;
      returned = ap normal_answer e;
      unchanged = ap (λ y. written y old) e;
    })
    go (Ok t) e =
        let (rs, h, f) = normal_on tables (length old) t e in
        let g : normalised tables (length old) ≡ Ok (normal_text rs) = e ∙ ap Ok (sym f) in
        inr (record {
          none = (handed_none (normalised tables (length old)) (normal_causes tables (length old)) (normal_refused_iff tables (length old))).0 (t, e);
          rows = rs;
          accepted = (tables_accepted_iff tables rs).0 h;
          returned = ap normal_answer g;
          bytes = ap (λ y. written y old) g;
        })

replay_does : (delay : ℕ) (trace tables o old old' : List ℕ) → ReplayRefused delay trace tables o old old' ⊎ ReplayDone delay trace tables o old old'
replay_does delay trace tables o old old' = go (replayed delay trace tables o (length old) (length old')) refl
  where
    go : (y : Checked Replayed) → replayed delay trace tables o (length old) (length old') ≡ y → ReplayRefused delay trace tables o old old' ⊎ ReplayDone delay trace tables o old old'
    go (Err r) e = inl (record {
      refusal = r;
      first = (replay_refused_iff delay trace tables o (length old) (length old') r).0 e;
      returned = ap replay_answer e;
      unchanged = ap (λ y. written (tables_to_write y) old) e;
      unchanged' = ap (λ y. written (answers_to_write y) old') e;
    })
    go (Ok x) e =
        let (es, h, (rs, k, f)) = replayed_on delay trace tables o (length old) (length old') x e in
        let g : replayed delay trace tables o (length old) (length old') ≡ Ok (texts_of es o (tables_of rs)) = e ∙ ap Ok (sym f) in
        inr (record {
          none = (handed_none (replayed delay trace tables o (length old) (length old')) (replay_causes delay trace tables o (length old) (length old')) (replay_refused_iff delay trace tables o (length old) (length old'))).0 (x, e);
          events = es;
          rows = rs;
          accepted = (trace_accepted_iff delay trace es).0 h;
          held = (tables_accepted_iff tables rs).0 k;
          ends = (texts_of es o (tables_of rs)).tables;
          lines = (texts_of es o (tables_of rs)).answers;
          ends_are = refl;
          lines_are = refl;
          returned = ap replay_answer g;
          bytes = ap (λ y. written (tables_to_write y) old) g;
          bytes' = ap (λ y. written (answers_to_write y) old') g;
        })

trials_does : (delay : ℕ) (trace tables os old : List ℕ) → TrialsRefused delay trace tables os old ⊎ TrialsDone delay trace tables os old
trials_does delay trace tables os old = go (tried delay trace tables os (length old)) refl
  where
    go : (y : Checked (List ℕ)) → tried delay trace tables os (length old) ≡ y → TrialsRefused delay trace tables os old ⊎ TrialsDone delay trace tables os old
    go (Err r) e = inl (record {
      refusal = r;
      first = (trials_refused_iff delay trace tables os (length old) r).0 e;
      returned = ap trials_answer e;
      unchanged = ap (λ y. written y old) e;
    })
    go (Ok x) e =
        let (es, h, (rs, k, f)) = tried_on delay trace tables os (length old) x e in
        inr (record {
          none = (handed_none (tried delay trace tables os (length old)) (trials_causes delay trace tables os (length old)) (trials_refused_iff delay trace tables os (length old))).0 (x, e);
          events = es;
          rows = rs;
          accepted = (trace_accepted_iff delay trace es).0 h;
          held = (tables_accepted_iff tables rs).0 k;
          bytes = x;
          bytes_are = sym f;
          returned = ap trials_answer e;
          buffer = ap (λ y. written y old) e;
        })

pub demand_1 : (delay : ℕ) → Demand1 delay
demand_1 delay = record { list = list_does delay; page = page_does delay; share = share_does delay; normalise = normal_does; replay = replay_does delay; trials = trials_does delay }
