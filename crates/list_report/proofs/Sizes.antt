-- How much what is printed can take: 425,000 bytes. Assumes nothing.
use Rattle.std.specs.Prelude.{Ok, Err}
use Prim.Native.Nat.{ℕ, ◌*◌, ◌<◌, ◌≤◌}
use native.Mathlib.Omega.{arith}
use mathlib.Core.Path.{◌≡◌, refl}
use mathlib.Core.List.{List, [], ◌∷◌, Memᴰ}
use lib.ListN.{length, length-append}
use Rattle.text_numbers.proofs.Print.{print_short, print_length}
use Rattle.list_pairs.specs.List.{test, Pair, list_of, pair_bytes, counts_of, listing_of}
use Rattle.list_verdicts.specs.Kinds.{listed}
use Rattle.list_pairs.proofs.Members.{pairs_in}
use Rattle.refusals.specs.Checks.{Checked}
use Rattle.trace_text.specs.TraceText.{read_trace}
use Rattle.trace_text.proofs.Accepted.{trace_accepted_iff}
use Rattle.list_pairs.proofs.Sizes.{count_most}
use Rattle.refusals_text.proofs.Laws.{key_number_length, refusal_length, refused_length}
use Rattle.list_report.specs.Types.{Event, Counts}
use Rattle.list_report.specs.Report.{race_line, race_lines, counts_line, list_text, text_of, report_text}
use Rattle.list_report.proofs.Refused.{refused_text_lem}

race_length : (i j : ℕ) → i < 256 → j < 256 → length (race_line i j) ≤ 13
unfolding race_line
race_length i j a b = simp (length-append, key_number_length) (omega (arith, print_short 2 i (omega arith), print_short 2 j (omega arith)))

races_length : (ps : List Pair) → ((i j : ℕ) → Memᴰ (record { lower = i; higher = j }) ps → (i < j) × (j < 256)) → length (race_lines (pair_bytes ps)) ≤ 13 * length ps
races_length [] h = omega arith
races_length (p ∷ ps) h =
    let r = h p.lower p.higher (Memᴰ.head refl) in
    let a = r.0 in
    let b = r.1 in
    omega (
      arith,
      length-append (race_line p.lower p.higher) (race_lines (pair_bytes ps)),
      race_length p.lower p.higher (omega arith) b,
      races_length ps (λ i j m. h i j (Memᴰ.tail m)),
    )

counts_length : (c : Counts) → length (counts_line c) ≤ 115
unfolding counts_line
counts_length c = simp (length-append, key_number_length) (omega (arith, print_length c.pairs, print_length c.ordered, print_length c.commuting, print_length c.listed))

list_length : (delay : ℕ) (es : List Event) → length es ≤ 256 → length (list_text (listing_of delay es)) ≤ 425000
unfolding list_text listing_of
list_length delay es l =
    omega (
      arith,
      length-append (race_lines (pair_bytes (list_of delay es))) (counts_line (counts_of delay es)),
      races_length (list_of delay es) (λ i j m. let q = (pairs_in (test delay listed es) (length es) i j).0 m in (q.0, omega (arith, q.1))),
      count_most delay listed es l,
      counts_length (counts_of delay es),
    )

-- what is printed fits 425,000 bytes
pub report_length : (delay : ℕ) (s : List ℕ) → length (report_text delay s) ≤ 425000
unfolding report_text
report_length delay s = go (read_trace delay s) refl
  where
    go : (x : Checked (List Event)) → read_trace delay s ≡ x → length (text_of delay s x) ≤ 425000
    go (Err r) h = omega (arith, refused_length s [] r, refusal_length r, refused_text_lem delay s r h)
    go (Ok es) h = list_length delay es ((trace_accepted_iff delay s es).0 h).few
