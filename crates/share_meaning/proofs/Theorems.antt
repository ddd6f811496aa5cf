-- The share of every accepted trace text (`share_exact`). Assumes nothing.
use Rattle.std.specs.Prelude.{Ok, Err}
use Prim.Native.Nat.{ℕ}
use native.Mathlib.Omega.{arith}
use mathlib.Core.Path.{◌≡◌, refl, sym, subst, ◌∙◌}
use mathlib.Core.List.{List}
use Rattle.refusals.specs.Checks.{Checked, refuse_short}
use Rattle.refusals.proofs.Checks.{same_value, handed_on}
use Rattle.trace_text.specs.TraceText.{read_trace}
use Rattle.trace_text.proofs.Accepted.{events_in_range, accepted_in_line_order}
use Rattle.list_pairs.specs.List.{list_of, pair_bytes, counts_of, Listing, listing_of}
use Rattle.list_pairs.proofs.Numbers.{counts_add}
use Rattle.list_call.specs.Races.{list_races, list_answer}
use Rattle.share.specs.Share.{share_of}
use Rattle.share.specs.Meaning.{IsShare}
use Rattle.share.proofs.Theorems.{share_means}
use Rattle.share_call.specs.Shared.{shared}
use Rattle.share_meaning.specs.Types.{Event, Counts, Refusal}
use Rattle.share_meaning.specs.Share.{ShareExact}
use Rattle.share_meaning.proofs.Unordered.{none_unordered_iff}

module _ (delay : ℕ) (s : List ℕ) (es : List Event) (h : read_trace delay s ≡ Ok es) where
  returned_share : shared delay s ≡ Ok (share_of (counts_of delay es))
  unfolding shared
  returned_share = rw h

  listing_made : (room : ℕ) (l : Listing) → list_races delay s room ≡ Ok l → listing_of delay es ≡ l
  unfolding list_races
  listing_made room l e =
      same_value (handed_on (refuse_short room (pair_bytes (list_of delay es)) Refusal.ListShort) (λ _. Ok (listing_of delay es)) (rw h at e)).2

  -- the counts that the list call returns, where it returns some
  list_counts : (room : ℕ) (c : Counts) → list_answer (list_races delay s room) ≡ Ok c → counts_of delay es ≡ c
  unfolding listing_of
  list_counts room c e = go (list_races delay s room) refl e
    where
      go : (y : Checked Listing) → list_races delay s room ≡ y → list_answer y ≡ Ok c → counts_of delay es ≡ c
      go (Err r) f e = let z : ◌≡◌ {A = ℕ} 0 1 = cc in absurd (omega arith)
      go (Ok l) f e = let m = listing_made room l f in cc

  -- THE share of an accepted trace text
  pub share_exact : ShareExact delay s es
  unfolding counts_of
  share_exact =
      let x = share_means (counts_of delay es) in
      let (to, from) = none_unordered_iff delay es (accepted_in_line_order delay s es h) (λ n. (events_in_range delay s es h n).effect) in
      record {
        share = share_of (counts_of delay es);
        returned = returned_share;
        product = x.product;
        below = x.below;
        divisor = omega (arith, x.by, counts_add delay es);
        none = (λ e. to (sym x.by ∙ e), λ u. x.by ∙ from u);
        zeros = x.none;
        list = λ room c e. subst (λ (d : Counts). IsShare d (share_of (counts_of delay es))) (list_counts room c e) x;
      }
