-- The answer and the buffer of a list, by the two paths through the code. Assumes nothing.
use Rattle.std.specs.Prelude.{Ok, Err}
use Prim.Native.Nat.{ℕ, ◌*◌, ◌<◌, ◌≤◌}
use native.Mathlib.Omega.{arith}
use mathlib.Core.Path.{◌≡◌, refl, sym, ap, ◌∙◌}
use mathlib.Core.List.{List, ◌++◌}
use lib.ListN.{length, take, drop}
use lib.Seq.{length-take-le}
use Rattle.refusals.proofs.Checks.{short_refused, short_passed}
use Rattle.list_pairs.specs.List.{list_of, pair_bytes, listing_of}
use Rattle.list_pairs.specs.Inner.{HoldsList}
use Rattle.list_pairs.proofs.Made.{counts_are, list_is}
use Rattle.list_call.specs.Types.{Event, Counts, Refusal}
use Rattle.list_call.specs.Inner.{fitted, Lists}

-- the list in a buffer of its own
module _ (delay : ℕ) (es : List Event) (c : Counts) (bytes : List ℕ) (h : HoldsList delay es c bytes) where
  needed_is : 2 * c.listed ≡ length (pair_bytes (list_of delay es))
  needed_is = sym (length-take-le (2 * c.listed) bytes h.within) ∙ ap length (list_is delay es c bytes h)

  module _ (old : List ℕ) where
    pub list_short : length old < 2 * c.listed → Lists (fitted delay es (length old)) (Err (Refusal.ListShort (2 * c.listed))) old old
    unfolding fitted
    list_short l =
        let t = short_refused (length old) (pair_bytes (list_of delay es)) Refusal.ListShort (omega (arith, needed_is)) in
        rw t (record { answer = ap (λ (n : ℕ). Err (Refusal.ListShort n)) needed_is; buffer = refl })

    pub list_done : (out : List ℕ) → 2 * c.listed ≤ length old → out ≡ take (2 * c.listed) bytes ++ drop (2 * c.listed) old
        → Lists (fitted delay es (length old)) (Ok c) old out
    unfolding fitted listing_of
    list_done out m o =
        let t = short_passed (length old) (pair_bytes (list_of delay es)) Refusal.ListShort (omega (arith, needed_is)) in
        rw t (record {
          answer = ap Ok (counts_are delay es c bytes h);
          buffer = o ∙ ap (λ (n : ℕ). take (2 * c.listed) bytes ++ drop n old) needed_is ∙ ap (λ (x : List ℕ). x ++ drop (length (pair_bytes (list_of delay es))) old) (list_is delay es c bytes h);
        })
