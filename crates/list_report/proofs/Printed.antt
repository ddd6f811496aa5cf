-- What is printed, put into a buffer: of an accepted trace its list, of a refused one its refusal. Assumes nothing.
use Prim.Native.Nat.{ℕ, ◌*◌, ◌≤◌}
use native.Mathlib.Omega.{arith}
use mathlib.Core.Path.{◌≡◌, ap, subst}
use mathlib.Core.List.{List, ◌++◌}
use lib.ListN.{take}
use Rattle.text_numbers.specs.Inner.{Put}
use Rattle.refusals.specs.Checks.{Checked}
use Rattle.trace_text.specs.TraceText.{read_trace}
use Rattle.list_pairs.specs.List.{listing_of}
use Rattle.list_pairs.specs.Inner.{HoldsList}
use Rattle.list_report.specs.Types.{Event, Counts}
use Rattle.list_report.specs.Report.{race_lines, counts_line, list_text, text_of, report_text}
use Rattle.list_report.proofs.Sizes.{report_length}

-- the lines of the list that stands in a buffer
pub list_put : (delay : ℕ) (es : List Event) (c : Counts) (bytes : List ℕ) → HoldsList delay es c bytes → {n : ℕ} {old out : List ℕ}
    → Put (race_lines (take (2 * c.listed) bytes) ++ counts_line c) 0 old n out → Put (list_text (listing_of delay es)) 0 old n out
unfolding list_text
list_put delay es c bytes h {n} {old} {out} p = subst (λ (t : List ℕ). Put t 0 old n out) (ap list_text h.listing) p

-- the text of a trace, by what it is read as
module _ (delay : ℕ) (s : List ℕ) where
  pub report_put : (x : Checked (List Event)) → x ≡ read_trace delay s → {n : ℕ} {old out : List ℕ} → Put (text_of delay s x) 0 old n out
      → Put (report_text delay s) 0 old n out × (n ≤ 425000)
  unfolding report_text
  report_put x e {n} {old} {out} p =
      let q = subst (λ (x : Checked (List Event)). Put (text_of delay s x) 0 old n out) e p in
      (q, omega (arith, q.after, report_length delay s))
