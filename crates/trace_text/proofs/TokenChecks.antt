-- The searches for tokens put out twice or taken in too early. Assumes nothing.
use Prim.Native.Nat.{ℕ, zero, suc, ◌+◌, ◌-◌, ◌≤◌, ◌<◌}
use mathlib.Core.Bool.{Bool, true, false, false≢true, or-true}
use mathlib.Core.List.{List, [], ◌∷◌}
use mathlib.Core.Path.{◌≡◌, refl, ◌∙◌}
use native.Mathlib.Omega.{arith}
use borrow.Author.Tests.{le-leb, leb-true}
use lib.Dec.{leb}
use lib.ListN.{length, get_or, take, drop, length-drop}
use Rattle.std.proofs.lemmas.List.{get_or-drop, take_all, take-map, drop-map}
use lib.Seq.{length-take-le, get_or-take}
use Rattle.std.specs.List.{list_any}
use Rattle.trace_events.specs.Events.{tokens_of, event_at, no_event}
use Rattle.basics.specs.Searches.{shares}
use Rattle.basics.proofs.Booleans.{both_ways, and_left, and_right, and_intro, or_cases}
use Rattle.basics.proofs.Searches.{any_found, any_at}
use Rattle.trace_text.specs.Types.{Event, Tokens}
use Rattle.trace_text.specs.Inner.{all_outs}
use Rattle.trace_text.specs.TraceText.{outs_at, puts_out, twice, taken_early}

-- ---- some element of a list passes the test: one at a place of it
module _ {A : Type 0} (p : A → Bool) (d : A) where
  any_place : (xs : List A) → list_any p xs ≡ true → (k : ℕ) × (k < length xs) × (p (get_or xs k d) ≡ true)
  any_place [] e = absurd (false≢true e)
  any_place (x ∷ xs) e = or_cases (p x) (list_any p xs) e
      (λ f. (0, omega arith, f))
      (λ f. let (k, l, h) = any_place xs f in (suc k, omega arith, h))

  place_any : (xs : List A) (k : ℕ) → k < length xs → p (get_or xs k d) ≡ true → list_any p xs ≡ true
  place_any [] k l h = absurd (omega arith)
  place_any (x ∷ xs) zero l h = rw h
  place_any (x ∷ xs) (suc k) l h = rw (place_any xs k (omega arith) h) (or-true (p x))

-- ---- some line puts out one of the tokens
-- the line puts out one of them
abbrev pub puts : List ℕ → Event → Bool
puts tokens = λ e. shares tokens (tokens_of e.head.outs)

-- one of them is among what a line puts out
abbrev pub outs_put : List ℕ → Tokens → Bool
outs_put tokens = λ o. shares tokens (tokens_of o)

-- a search through what the lines put out, as one through the lines
outs_any : (tokens : List ℕ) (es : List Event) → list_any (outs_put tokens) (all_outs es) ≡ list_any (puts tokens) es
outs_any tokens [] = refl
outs_any tokens (e ∷ es) = rw (outs_any tokens es) refl

pub outs_put_nothing : (t : Tokens) (os : List Tokens) → t.count ≡ 0 → false ≡ list_any (outs_put (tokens_of t)) os
unfolding tokens_of shares
outs_put_nothing t [] e = refl
outs_put_nothing t (x ∷ os) e = rw e (outs_put_nothing t os e)

pub puts_nothing : (t : Tokens) (es : List Event) → t.count ≡ 0 → false ≡ list_any (puts (tokens_of t)) es
puts_nothing t es e = outs_put_nothing t (all_outs es) e ∙ outs_any (tokens_of t) es

module _ (es : List Event) (tokens : List ℕ) where
  -- the lines before line k
  pub earlier_puts : (k : ℕ) → k ≤ length es → list_any (puts tokens) (take k es) ≡ puts_out (outs_at es) tokens 0 k
  unfolding puts_out
  earlier_puts k h = both_ways _ _
      (λ e. let (i, l, g) = any_place (puts tokens) no_event (take k es) e in
      let m : i < k = omega (arith, length-take-le k es h) in
      any_at _ k i m (and_intro (le-leb 0 i (omega arith)) (rw (get_or-take k es i no_event m) at g)))
      (λ e. let (i, l, g) = any_found _ k e in
      place_any (puts tokens) no_event (take k es) i (omega (arith, length-take-le k es h))
      (rw (get_or-take k es i no_event l) (and_right (leb 0 i) (puts tokens (event_at es i)) g)))

  -- line k and those behind it
  pub later_puts : (k : ℕ) → list_any (puts tokens) (drop k es) ≡ puts_out (outs_at es) tokens k (length es)
  unfolding puts_out
  later_puts k = both_ways _ _
      (λ e. let (i, l, g) = any_place (puts tokens) no_event (drop k es) e in
      let m : k + i < length es = omega (arith, length-drop k es) in
      any_at _ (length es) (k + i) m (and_intro (le-leb k (k + i) (omega arith)) (rw (get_or-drop k es i no_event) at g)))
      (λ e. let (i, l, g) = any_found _ (length es) e in
      let reached = leb-true k i (and_left (leb k i) (puts tokens (event_at es i)) g) in
      let there : k + (i - k) ≡ i = omega arith in
      place_any (puts tokens) no_event (drop k es) (i - k) (omega (arith, length-drop k es))
      (rw (get_or-drop k es (i - k) no_event, there) (and_right (leb k i) (puts tokens (event_at es i)) g)))

  -- the same, where what the lines put out is searched
  pub earlier_outs : (k : ℕ) → k ≤ length es → list_any (outs_put tokens) (take k (all_outs es)) ≡ puts_out (outs_at es) tokens 0 k
  earlier_outs k h = rw (take-map _ k es, outs_any tokens (take k es)) (earlier_puts k h)

  pub later_outs : (k : ℕ) → list_any (outs_put tokens) (drop k (all_outs es)) ≡ puts_out (outs_at es) tokens k (length es)
  later_outs k = rw (drop-map _ k es, outs_any tokens (drop k es)) (later_puts k)

-- ---- the tests of line k
module _ (es : List Event) (k : ℕ) (inside : k < length es) {r : Bool} where
  pub twice_test : r ≡ list_any (puts (tokens_of (event_at es k).head.outs)) (take k es) → r ≡ twice es k
  unfolding twice
  twice_test e = e ∙ earlier_puts es _ k (omega arith)

  pub early_test : r ≡ list_any (puts (tokens_of (event_at es k).head.ins)) (take (length es - k) (drop k es)) → r ≡ taken_early es k
  unfolding taken_early
  early_test e = e ∙ rw (take_all (length es - k) (drop k es) (omega (arith, length-drop k es))) (later_puts es _ k)

-- the same, of what the lines put out
module _ (es : List Event) (os : List Tokens) (outs : os ≡ all_outs es) (k : ℕ) (inside : k < length es) {r : Bool} where
  pub twice_by_outs : r ≡ list_any (outs_put (tokens_of (event_at es k).head.outs)) (take k os) → r ≡ twice es k
  unfolding twice
  twice_by_outs e = e ∙ rw outs (earlier_outs es _ k (omega arith))

  pub early_by_outs : r ≡ list_any (outs_put (tokens_of (event_at es k).head.ins)) (take (length os - k) (drop k os)) → r ≡ taken_early es k
  unfolding taken_early
  early_by_outs e = e ∙ rw (take_all (length os - k) (drop k os) (omega (arith, length-drop k os)), outs) (later_outs es _ k)
