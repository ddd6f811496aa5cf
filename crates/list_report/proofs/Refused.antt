-- The refused line of a trace is no longer than a trace. Assumes nothing.
use Rattle.std.specs.Prelude.{Err}
use Prim.Native.Nat.{ℕ, zero, suc, ◌+◌, ◌≤◌}
use native.Mathlib.Omega.{arith}
use mathlib.Core.Path.{◌≡◌}
use mathlib.Core.List.{List, [], ◌∷◌}
use lib.Dec.{eqb}
use lib.ListN.{length, get_or, length-append}
use Rattle.basics.specs.Text.{bytes}
use Rattle.basics.proofs.Booleans.{split}
use Rattle.text_lines.specs.Lines.{in_first, lines}
use Rattle.refusals.specs.Refusals.{place_of, source_of, text_in, line_of}
use Rattle.trace_text.specs.TraceText.{read_trace}
use Rattle.trace_text.proofs.Refused.{refused_for}
use Rattle.list_report.specs.Types.{Refusal, Source}
use Rattle.refusals_text.specs.Report.{line_text}

first_most : (b : ℕ) (ls : List (List ℕ)) (n : ℕ) → ((k : ℕ) → length (get_or ls k []) ≤ n) → (k : ℕ) → length (get_or (in_first b ls) k []) ≤ suc n
unfolding in_first
first_most b [] n h zero = omega arith
first_most b [] n h (suc k) = omega arith
first_most b (l ∷ ls) n h zero = omega (arith, h 0)
first_most b (l ∷ ls) n h (suc k) = omega (arith, h (suc k))

after_most : (ls : List (List ℕ)) (n : ℕ) → ((k : ℕ) → length (get_or ls k []) ≤ n) → (k : ℕ) → length (get_or ([] ∷ ls) k []) ≤ suc n
after_most ls n h zero = omega arith
after_most ls n h (suc k) = omega (arith, h k)

-- no line is longer than the text
line_most : (s : List ℕ) (k : ℕ) → length (get_or (lines s) k []) ≤ length s
unfolding lines
line_most [] k = omega arith
line_most (b ∷ s) k = split (eqb b 10) (λ e. rw e (after_most (lines s) (length s) (line_most s) k)) (λ e. rw e (first_most b (lines s) (length s) (line_most s) k))

text_most : (s : List ℕ) (q : Source) (n : ℕ) → length (line_text q (get_or (lines (text_in q s [])) n [])) ≤ length s + 1
text_most s Source.Neither n = omega arith
text_most s Source.Trace n = omega (arith, length-append (get_or (lines s) n []) (bytes "\n"), line_most s n)
text_most s Source.Tables n = omega (arith, length-append (get_or (lines []) n []) (bytes "\n"), line_most [] n)

-- a text that exceeds a limit has no refused line; the line of any other fits 65,536 bytes with its LF
pub refused_text_lem : (delay : ℕ) (s : List ℕ) (r : Refusal) → read_trace delay s ≡ Err r → length (line_text (source_of r) (line_of s [] r)) ≤ 65536
unfolding line_of
refused_text_lem delay s r h =
    refused_for delay s r h
    (λ n p q. rw q (omega arith))
    (λ w n p. omega (arith, text_most s (source_of r) (place_of r), w.bytes))
    (λ w es e u. omega (arith, text_most s (source_of r) (place_of r), w.bytes))
