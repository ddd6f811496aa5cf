-- Two texts read one after the other: where both are accepted, and what follows. Assumes nothing.
use Rattle.std.specs.Prelude.{Ok, Err, IfOk}
use mathlib.Core.List.{List}
use mathlib.Core.Path.{◌≡◌, refl, sym, ap, ◌∙◌, subst}
use Prim.Native.Nat.{ℕ, ◌≤◌}
use Rattle.refusals.specs.Checks.{Checked, ◌▹◌}
use Rattle.text_reader.proofs.Each.{refuses}
use Rattle.trace_events.specs.Events.{events_of}
use Rattle.rows.specs.Rows.{rows_of}
use Rattle.trace_text.specs.TraceText.{read_trace}
use Rattle.trace_text.specs.Inner.{as_trace, TraceOf}
use Rattle.tables_text.specs.TableText.{read_tables}
use Rattle.tables_text.specs.Inner.{as_tables, TablesOf}
use Rattle.inputs.specs.Types.{Event, Trace, Row, Rows, Inputs, BothRead}
use Rattle.inputs.specs.Inputs.{read_both}
use Rattle.inputs.specs.Inner.{as_inputs, as_both, inputs_of}

abbrev paired : List Event → List Row → List Event × List Row
paired es rs = (es, rs)

-- both texts are accepted
pub both_accepted : (delay : ℕ) (s t : List ℕ) (es : List Event) (rs : List Row) → read_both delay s t ≡ Ok (es, rs) → (read_trace delay s ≡ Ok es) × (read_tables t ≡ Ok rs)
unfolding read_both
both_accepted delay s t es rs e = go (read_trace delay s) (read_tables t) e
  where
    go : (x : Checked (List Event)) (y : Checked (List Row)) → (x ▹ λ a. y ▹ λ b. Ok (paired a b)) ≡ Ok (es, rs) → (x ≡ Ok es) × (y ≡ Ok rs)
    go (Err r) y p = refuses p
    go (Ok a) (Err r) p = refuses p
    go (Ok a) (Ok b) p = let q : paired a b ≡ (es, rs) = cc in (ap (λ z. Ok z.0) q, ap (λ z. Ok z.1) q)

-- what follows both follows the one and then the other
pub both_then : (delay : ℕ) {A : Type 0} (s t : List ℕ) (next : List Event → List Row → Checked A)
    → (read_both delay s t ▹ λ (es, rs). next es rs) ≡ (read_trace delay s ▹ λ es. read_tables t ▹ λ rs. next es rs)
unfolding read_both
both_then delay {A} s t next = go (read_trace delay s) (read_tables t)
  where
    go : (x : Checked (List Event)) (y : Checked (List Row)) → ((x ▹ λ a. y ▹ λ b. Ok (paired a b)) ▹ λ (es, rs). next es rs) ≡ (x ▹ λ es. y ▹ λ rs. next es rs)
    go (Err r) y = refl
    go (Ok a) (Err r) = refl
    go (Ok a) (Ok b) = refl

-- ---- each text by itself, then both
-- both as the code has them, one after the other, and their lists
abbrev one_by_one : Checked Trace → Checked Rows → Checked Inputs
one_by_one x y = x ▹ λ t. y ▹ λ rs. Ok (record { trace = t; rows = rs })

abbrev lists_of : Checked Trace → Checked Rows → Checked (List Event × List Row)
lists_of x y = x ▹ λ t. y ▹ λ rs. Ok (paired (events_of t) (rows_of rs))

abbrev Few : Checked Inputs → Type 0
Few r = IfOk r (λ i. (i.trace.len ≤ 256) × (i.rows.len ≤ 256))

in_turn : (x : Checked Trace) (y : Checked Rows) → lists_of x y ≡ (as_trace x ▹ λ es. as_tables y ▹ λ rs. Ok (paired es rs))
in_turn (Err r) y = refl
in_turn (Ok t) (Err r) = refl
in_turn (Ok t) (Ok rs) = refl

lists_kept : (x : Checked Trace) (y : Checked Rows) → as_inputs (one_by_one x y) ≡ lists_of x y
lists_kept (Err r) y = refl
lists_kept (Ok t) (Err r) = refl
lists_kept (Ok t) (Ok rs) = refl

few_kept : (x : Checked Trace) (y : Checked Rows) → IfOk x (λ t. t.len ≤ 256) → IfOk y (λ rs. rs.len ≤ 256) → Few (one_by_one x y)
few_kept (Err r) y h k = tt
few_kept (Ok t) (Err r) h k = tt
few_kept (Ok t) (Ok rs) h k = (h, k)

module _ (delay : ℕ) (s t : List ℕ) (b : BothRead) (trace : TraceOf (read_trace delay s) b.trace) (rows : TablesOf (read_tables t) b.rows) where
  pub both_read : as_both b ≡ read_both delay s t
  unfolding read_both
  both_read = in_turn b.trace b.rows ∙ (λ i. trace.answer i ▹ λ es. rows.answer i ▹ λ rs. Ok (paired es rs))

  -- what is handed on of both is what both texts hold, and few
  pub accepted_read : {r : Checked Inputs} → r ≡ inputs_of b → (as_inputs r ≡ read_both delay s t) × IfOk r (λ i. (i.trace.len ≤ 256) × (i.rows.len ≤ 256))
  accepted_read e = (ap as_inputs e ∙ lists_kept b.trace b.rows ∙ both_read, subst Few (sym e) (few_kept b.trace b.rows trace.few rows.few))
