-- What the tests of refusals 7 and 8 mean: a token of the line stands twice, or is taken in too early. Assumes nothing.
use mathlib.Core.Path.{◌≡◌}
use mathlib.Core.Logic.{◌↔◌}
use mathlib.Core.Bool.{true}
use mathlib.Core.List.{List}
use Prim.Native.Nat.{ℕ, ◌≤◌, ◌<◌}
use native.Mathlib.Omega.{arith}
use lib.Dec.{leb}
use lib.ListN.{length}
use borrow.Author.Tests.{leb-true, le-leb}
use Rattle.basics.proofs.Booleans.{and_left, and_right, and_intro}
use Rattle.basics.specs.Searches.{has, shares}
use Rattle.basics.proofs.Searches.{any_found, any_at, shares_found, shares_at}
use Rattle.trace_text.specs.Types.{Event}
use Rattle.trace_text.specs.TraceText.{ins_at, outs_at, puts_out, twice, taken_early}
use Rattle.trace_text.specs.Meaning.{TwiceAt, TakenEarlyAt}

-- ---- some line puts out one of the tokens
line_found : (es : List Event) (tokens : List ℕ) (from to : ℕ) → puts_out (outs_at es) tokens from to ≡ true
    → (k : ℕ) × (from ≤ k) × (k < to) × (t : ℕ) × (has t tokens ≡ true) × (has t (outs_at es k) ≡ true)
unfolding puts_out
line_found es tokens from to h =
    let r = any_found _ to h in
    let s = shares_found tokens (outs_at es r.0) (and_right (leb from r.0) _ r.2) in
    (r.0, leb-true from r.0 (and_left _ (shares tokens (outs_at es r.0)) r.2), r.1, s.0, s.1, s.2)

line_finds : (es : List Event) (tokens : List ℕ) (from to k t : ℕ) → from ≤ k → k < to → has t tokens ≡ true → has t (outs_at es k) ≡ true
    → puts_out (outs_at es) tokens from to ≡ true
unfolding puts_out
line_finds es tokens from to k t a b h g = any_at _ to k b (and_intro (le-leb from k a) (shares_at tokens (outs_at es k) t h g))

-- 7: the test says yes of line j exactly if a token stands in `out` of j and of an earlier line
pub twice_iff : (es : List Event) (j : ℕ) → (twice es j ≡ true) ↔ TwiceAt es j
unfolding twice
twice_iff es j = (
  λ h. let (k, a, b, t, s, f) = line_found es (outs_at es j) 0 j h in
      record { token = t; line = k; earlier = b; first = f; second = s },
  λ w. line_finds es (outs_at es j) 0 j w.line w.token (omega arith) w.earlier w.second w.first,
)

-- 8: the test says yes of line i exactly if an `in` token of it is put out on this or a later line
pub taken_early_iff : (es : List Event) (i : ℕ) → (taken_early es i ≡ true) ↔ TakenEarlyAt es i
unfolding taken_early
taken_early_iff es i = (
  λ h. let (k, a, b, t, s, f) = line_found es (ins_at es i) i (length es) h in
      record { token = t; line = k; later = a; inside = b; taken = s; given = f },
  λ w. line_finds es (ins_at es i) i (length es) w.line w.token w.later w.inside w.taken w.given,
)
