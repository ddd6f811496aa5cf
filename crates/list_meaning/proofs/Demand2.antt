-- Demand 2 for the list of every accepted trace text (`list_exact`). Assumes nothing.
use Rattle.std.specs.Prelude.{Ok, Err}
use Prim.Native.Nat.{ℕ, ◌*◌, ◌≤◌, ◌<◌}
use native.Mathlib.Omega.{arith}
use mathlib.Core.Path.{◌≡◌, sym, ap, subst}
use mathlib.Core.List.{List}
use lib.ListN.{length}
use Rattle.refusals.specs.Checks.{Checked, written}
use Rattle.refusals.proofs.Checks.{short_refused, short_passed}
use Rattle.trace_text.specs.TraceText.{read_trace}
use Rattle.trace_text.proofs.Accepted.{events_in_range, accepted_in_line_order}
use Rattle.list_verdicts.specs.Kinds.{listed}
use Rattle.list_pairs.specs.List.{test, list_of, pair_bytes, count, Listing, listing_of}
use Rattle.list_pairs.proofs.PairLaws.{bytes_length}
use Rattle.list_pairs.proofs.Numbers.{counts_add, pairs_count}
use Rattle.list_call.specs.Races.{list_races, list_answer, list_out}
use Rattle.list_meaning.specs.Types.{Event, Refusal}
use Rattle.list_meaning.specs.Calls.{HasPairs, WritesList}
use Rattle.list_meaning.specs.Demand2.{ListExact}
use Rattle.list_meaning.proofs.OfKind.{kind_iff}
use Rattle.list_meaning.proofs.Order.{pairs_rising}
use Rattle.list_meaning.proofs.Bytes.{pairs_put}

module _ (delay : ℕ) (s : List ℕ) (es : List Event) (h : read_trace delay s ≡ Ok es) where
  passed : (room : ℕ) → 2 * count delay listed es ≤ room → list_races delay s room ≡ Ok (listing_of delay es)
  unfolding list_races
  passed room l = rw (h, short_passed room (pair_bytes (list_of delay es)) Refusal.ListShort (omega (arith, bytes_length (list_of delay es))))

  refused : (room : ℕ) → room < 2 * count delay listed es → list_races delay s room ≡ Err (Refusal.ListShort (2 * count delay listed es))
  unfolding list_races
  refused room l =
      rw (h, short_refused room (pair_bytes (list_of delay es)) Refusal.ListShort (omega (arith, bytes_length (list_of delay es))))
      (ap (λ (n : ℕ). Err (Refusal.ListShort n)) (bytes_length (list_of delay es)))

  writes : (old : List ℕ) → 2 * count delay listed es ≤ length old → WritesList delay s es (list_of delay es) old
  unfolding listing_of
  writes old l =
      let done = passed (length old) l in
      record {
        returned = ap list_answer done;
        buffer = subst (HasPairs (list_of delay es) old) (sym (ap (λ (y : Checked Listing). written (list_out y) old) done)) (pairs_put (list_of delay es) old l);
      }

  -- THE list of an accepted trace text
  pub list_exact : ListExact delay s es
  list_exact = record {
    lists = λ k. record { exact = λ i j. kind_iff delay es (accepted_in_line_order delay s es h) i j (λ n. (events_in_range delay s es h n).effect) k; rising = pairs_rising (test delay k es) (length es) };
    all = pairs_count delay es (λ n l. (events_in_range delay s es h n).switch);
    sum = counts_add delay es;
    call = writes;
    short = refused;
  }
