-- Where the search for the direct predecessors of event j begins: no step leads to j from an event before that place. Assumes nothing.
use Prim.Native.Nat.{ℕ, ◌+◌, ◌<◌, ◌≤◌}
use native.Mathlib.Numerals.{add-one}
use native.Mathlib.Omega.{arith}
use native.Mathlib.Decide.{dec_lt}
use mathlib.Core.Path.{◌≡◌, refl, sym, ap, ◌∙◌, subst}
use mathlib.Core.Bool.{Bool, true, false, ◌||◌, and-false, true≢false}
use lib.Dec.{ltb}
use lib.ListN.{length}
use borrow.Author.Tests.{le-ltb, ltb-false}
use Rattle.basics.specs.Searches.{any_below}
use Rattle.basics.proofs.Booleans.{split, or_left, or_right}
use Rattle.basics.proofs.Searches.{any_none, any_at}
use Rattle.trace_events.specs.Events.{events_of}
use Rattle.trace_events.specs.Inner.{side_later, side_step, may_pass_to}
use Rattle.trace_events.proofs.SideLaws.{by_neither}
use Rattle.happens_before.specs.Types.{Side, Trace}
use Rattle.happens_before.specs.Causality.{step, through}
use Rattle.happens_before.specs.Inner.{search_from}
use Rattle.happens_before.proofs.RowLaws.{step_at}
use Rattle.happens_before.proofs.SideNotes.{side_at}

-- whether one of the first n events is a barrier
abbrev pub Barred : Trace → ℕ → Bool → Type 0
Barred t n b = b ≡ any_below (λ k. (side_at t k).barrier) n

-- an event more
pub barred_more : (t : Trace) (n : ℕ) {b : Bool} {s : Side} → Barred t n b → s ≡ side_at t n → Barred t (n + 1) (b || s.barrier)
barred_more t n e f = rw add-one (cc)

none_before : (t : Trace) (n k : ℕ) → Barred t n false → k < n → (side_at t k).barrier ≡ false
none_before t n k e l = split (side_at t k).barrier (λ u. absurd (true≢false (sym (any_at _ n k l u) ∙ sym e))) (λ u. u)

-- no event among the first n that a switch handles has a lower `to`
abbrev pub Earliest : Trace → ℕ → ℕ → Type 0
Earliest t n m = (k : ℕ) → k < n → (side_at t k).handled ≡ true → m ≤ (side_at t k).to

-- an event more
pub earliest_more : (t : Trace) (n : ℕ) {m r : ℕ} {s : Side} → Earliest t n m → s ≡ side_at t n → r ≤ m → (s.handled ≡ true → r ≤ s.to) → Earliest t (n + 1) r
earliest_more t n {m = m} {r = r} {s = s} f e l h k u v = elim (dec_lt k n) [
  | yes w ↦ omega (arith, l, f k w v)
  | no ge ↦
      let same : k ≡ n = omega arith in
      let side : s ≡ side_at t k = e ∙ ap (side_at t) (sym same) in
      subst (λ (x : Side). r ≤ x.to) side (h (ap (λ (x : Side). x.handled) side ∙ v))
]

no_side_step : (delay : ℕ) (a b : Side) → a.barrier ≡ false → b.barrier ≡ false → (a.handled ≡ true → b.from ≤ a.to + delay) → side_step delay a b ≡ false
unfolding side_step side_later
no_side_step delay a b e f h = split a.handled
    (λ u. rw (e, f, and-false, le-ltb (a.to + delay) b.from (h u), and-false) refl)
    (λ u. rw (e, f, and-false, u) refl)

no_taker : (a b : Side) → b.takes ≡ false → may_pass_to a b ≡ false
unfolding may_pass_to
no_taker a b e = rw (e, and-false)

-- what holds where an event before j is left out
module _ (delay : ℕ) (s : Side) (b : Bool) (m j : ℕ) where
  abbrev asked : Bool
  asked = s.takes || (b || s.barrier) || ltb (m + delay) s.from

  below : (k : ℕ) → k < search_from delay s b m j → (k < j) × (s.takes ≡ false) × (b ≡ false) × (s.barrier ≡ false) × (s.from ≤ m + delay)
  unfolding search_from
  below k = split asked
      (λ e. rw e (λ l. absurd (omega arith)))
      (λ e. rw e (λ l.
      let u = s.takes || (b || s.barrier) in
      let f = or_left u (ltb (m + delay) s.from) e in
      let g = or_right s.takes (b || s.barrier) f in
      (l, or_left s.takes (b || s.barrier) f, or_left b s.barrier g, or_right b s.barrier g, ltb-false (m + delay) s.from (or_right u (ltb (m + delay) s.from) e))))

  -- it begins at j or before
  pub from_within : search_from delay s b m j ≤ j
  unfolding search_from
  from_within = split asked (λ e. rw e (omega arith)) (λ e. rw e (omega arith))

module _ (delay : ℕ) (t : Trace) (fits : t.len ≤ length t.events) (j : ℕ) (inside : j < t.len) {s : Side} (e : s ≡ side_at t j) {b : Bool} (f : Barred t j b) {m : ℕ} (g : Earliest t j m) where
  no_step_below : (k : ℕ) → k < search_from delay s b m j → step delay (events_of t) k j ≡ false
  no_step_below k l =
      let (lower, takes, bars, barrier, late) = below delay s b m j k l in
      step_at delay t fits k j lower inside
      ∙ by_neither delay _ _
      (no_side_step delay (side_at t k) (side_at t j) (none_before t j k (sym bars ∙ f) lower) (ap (λ x. x.barrier) (sym e) ∙ barrier)
      (λ u. let same : s.from ≡ (side_at t j).from = ap (λ (x : Side). x.from) e in omega (arith, same, late, g k lower u)))
      (no_taker (side_at t k) (side_at t j) (ap (λ x. x.takes) (sym e) ∙ takes))

  -- nothing happens before j by a last step from an event that is left out
  pub none_below : (i : ℕ) → false ≡ any_below (through delay (events_of t) i j) (search_from delay s b m j)
  none_below i = any_none _ _ (λ k l. rw (no_step_below k l) refl)
