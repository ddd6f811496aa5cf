-- Two accepted traces have the same line of `raceshare` exactly if they have the same share (`same_line_iff`). Assumes nothing.
use Rattle.std.specs.Prelude.{Ok}
use Prim.Native.Nat.{ℕ, ◌^◌, ◌<◌}
use native.Mathlib.Omega.{arith}
use mathlib.Core.Path.{◌≡◌, refl, ap}
use mathlib.Core.List.{List}
use mathlib.Core.Logic.{◌↔◌}
use Rattle.trace_text.specs.TraceText.{read_trace}
use Rattle.trace_text.proofs.Accepted.{trace_accepted_iff}
use Rattle.list_pairs.specs.List.{counts_of}
use Rattle.list_pairs.proofs.Made.{counts_small}
use Rattle.share.specs.Share.{share_of}
use Rattle.share.proofs.Theorems.{share_small}
use Rattle.share_report.specs.Report.{share_line}
use Rattle.share_report.proofs.Theorems.{share_told}
use Rattle.share_meaning.specs.Types.{Event, Share}

abbrev share_in : (delay : ℕ) → List Event → Share
share_in delay es = share_of (counts_of delay es)

-- the numbers of an accepted trace's share are printed whole
short : (delay : ℕ) (s : List ℕ) (es : List Event) → read_trace delay s ≡ Ok es → ((share_in delay es).quotient < 10 ^ 20) × ((share_in delay es).remainder < 10 ^ 20) × ((share_in delay es).divisor < 10 ^ 20)
short delay s es h =
    let (q, r, d) = share_small (counts_of delay es) (counts_small delay es ((trace_accepted_iff delay s es).0 h).few (counts_of delay es) refl) in
    (omega (arith, q), omega (arith, r), omega (arith, d))

pub same_line_iff : (d e : ℕ) (s t : List ℕ) (es fs : List Event) → read_trace d s ≡ Ok es → read_trace e t ≡ Ok fs → (share_line (share_in d es) ≡ share_line (share_in e fs)) ↔ (share_in d es ≡ share_in e fs)
same_line_iff d e s t es fs h k = (share_told (share_in d es) (share_in e fs) (short d s es h) (short e t fs k), ap share_line)
