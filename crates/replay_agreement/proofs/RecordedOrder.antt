-- The recorded order is one of the orders that demand 3 speaks of (`recorded_allowed`), and its bytes are 0, 1, 2 and so on
-- (`recorded_bytes`). Assumes nothing.
use Rattle.std.specs.Prelude.{Ok}
use mathlib.Core.Path.{◌≡◌, sym, ap, ◌∙◌}
use mathlib.Core.List.{List}
use Prim.Native.Nat.{ℕ, ◌<◌}
use native.Mathlib.Omega.{arith}
use lib.ListN.{length, get_or, take}
use Rattle.text_lines.specs.Inner.{newlines}
use Rattle.text_lines.proofs.Lines.{lines_count}
use Rattle.list_pairs.proofs.Theorems.{list_members}
use Rattle.trace_events.specs.Clocks.{InLineOrder}
use Rattle.trace_text.specs.TraceText.{read_trace}
use Rattle.trace_text.proofs.Accepted.{trace_accepted_iff, lines_length}
use Rattle.order_check.proofs.Accepted.{stands_from, recorded_order, recorded_keeps}
use Rattle.order_check.proofs.RecordedBytes.{recorded_prefix}
use Rattle.order_rows.specs.Runs.{recorded}
use Rattle.replay_agreement.specs.Types.{Event}
use Rattle.replay_agreement.specs.Allowed.{Allowed}

pub recorded_allowed : (delay : ℕ) (es : List Event) → InLineOrder delay es → Allowed delay es (recorded es)
recorded_allowed delay es clocks = record {
  order = recorded_order (length es);
  keeps = recorded_keeps delay es clocks;
  listed = λ p m. let h = (list_members delay es p.lower p.higher).0 m in stands_from p.lower p.higher 0 (length es) (omega arith) h.0 (omega (arith, h.1));
}

-- ---- the recorded order as bytes
-- of the bytes 0, 1, 2 and so on as many as an accepted trace's text has lines are its recorded order
pub recorded_bytes : (delay : ℕ) (s : List ℕ) (es : List Event) → read_trace delay s ≡ Ok es → (r : List ℕ) → length r ≡ 256 → ((i : ℕ) → i < 256 → get_or r i 0 ≡ i)
    → take (newlines s) r ≡ recorded es
recorded_bytes delay s es e r size each =
    let t = (trace_accepted_iff delay s es).0 e in
    let count : newlines s ≡ length es = sym (lines_count s t.ended) ∙ ap length t.printed ∙ lines_length 0 es in
    ap (λ (n : ℕ). take n r) count ∙ recorded_prefix r size each (length es) t.few
