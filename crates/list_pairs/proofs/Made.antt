-- The list that stands in the buffer of its pass: the counts, the bytes, and how many they can be. Assumes nothing.
use Prim.Native.Nat.{ℕ, ◌+◌, ◌*◌, ◌≤◌}
use native.Mathlib.Omega.{arith}
use mathlib.Core.Path.{◌≡◌, sym, ap, ◌∙◌}
use mathlib.Core.List.{List}
use lib.ListN.{length, length-take, take, drop}
use lib.Seq.{sets, sets-eq, length-sets, length-take-le, take_at}
use Rattle.call_answers.specs.Inner.{Small}
use Rattle.trace_events.specs.Events.{events_of}
use Rattle.list_verdicts.specs.Kinds.{Kind, listed}
use Rattle.list_pairs.specs.Types.{Event, Trace, Counts}
use Rattle.list_pairs.specs.List.{list_of, count, pair_bytes, counts_of, Listing, listing_of}
use Rattle.list_pairs.specs.Inner.{count_of, HoldsList}
use Rattle.list_pairs.proofs.PairLaws.{bytes_length, small_of}
use Rattle.list_pairs.proofs.Sizes.{count_most}

pub events_most : (t : Trace) → t.len ≤ 256 → length (events_of t) ≤ 256
unfolding events_of
events_most t h = omega (arith, length-take t.len t.events)

module _ (delay : ℕ) (es : List Event) (few : length es ≤ 256) (c : Counts) (e : c ≡ counts_of delay es) where
  listed_is : c.listed ≡ count delay listed es
  unfolding counts_of
  listed_is = ap (λ (d : Counts). d.listed) e

  listed_most : c.listed ≤ 32640
  listed_most = omega (arith, listed_is, count_most delay listed es few)

  pub counts_small : Small c
  unfolding counts_of
  counts_small = rw e (small_of (counts_of delay es) small)
    where
      small : (k : Kind) → count_of k (counts_of delay es) ≤ 65535
      small Kind.pairs = omega (arith, count_most delay Kind.pairs es few)
      small Kind.ordered = omega (arith, count_most delay Kind.ordered es few)
      small Kind.commuting = omega (arith, count_most delay Kind.commuting es few)
      small Kind.listed = omega (arith, count_most delay Kind.listed es few)

  bytes_taken : length (pair_bytes (list_of delay es)) ≡ 2 * c.listed
  bytes_taken = bytes_length (list_of delay es) ∙ ap (λ (n : ℕ). 2 * n) (sym listed_is)

  pub made : (room bytes : List ℕ) → length room ≡ 131072 → bytes ≡ sets room 0 (pair_bytes (list_of delay es))
      → HoldsList delay es c bytes
  unfolding listing_of
  made room bytes l h =
      let taken : take (2 * c.listed) bytes ≡ pair_bytes (list_of delay es) =
      ap (take (2 * c.listed)) (h ∙ sets-eq (pair_bytes (list_of delay es)) room 0 (omega (arith, bytes_taken, listed_most)))
      ∙ take_at (pair_bytes (list_of delay es)) (drop (0 + length (pair_bytes (list_of delay es))) room) (2 * c.listed) bytes_taken in
      record { listing = λ m. record { counts = e m; bytes = taken m }; most = listed_most; within = omega (arith, listed_most, ap length h, length-sets room 0 (pair_bytes (list_of delay es))); small = counts_small }

module _ (delay : ℕ) (es : List Event) (c : Counts) (bytes : List ℕ) (h : HoldsList delay es c bytes) where
  pub counts_are : c ≡ counts_of delay es
  unfolding listing_of
  counts_are = ap (λ (l : Listing). l.counts) h.listing

  pub list_is : take (2 * c.listed) bytes ≡ pair_bytes (list_of delay es)
  unfolding listing_of
  list_is = ap (λ (l : Listing). l.bytes) h.listing

  -- the list fits where its length does
  pub list_fits : (room : ℕ) → 2 * c.listed ≤ room → length (take (2 * c.listed) bytes) ≤ room
  list_fits room m = omega (arith, length-take-le (2 * c.listed) bytes h.within)
