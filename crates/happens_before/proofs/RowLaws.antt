-- The rows of happens-before: how a row is filled, and a row more. Assumes nothing.
use Prim.Native.Nat.{ℕ, ◌+◌, ◌<◌, ◌≤◌}
use native.Mathlib.Decide.{ℕ_discrete, dec_lt}
use native.Mathlib.Numerals.{add-one}
use native.Mathlib.Omega.{arith}
use mathlib.Core.Path.{◌≡◌, refl, sym, ap, ap₂, ◌∙◌}
use mathlib.Core.Bool.{Bool, false, ◌&&◌, ◌||◌}
use mathlib.Core.List.{List, []}
use lib.Dec.{eqb, ltb}
use lib.ListN.{length, get_or, set, replicate, length-replicate, get_or-replicate, get_or-eq_default}
use lib.Seq.{get_or-set_same, get_or-set_other}
use borrow.Author.Tests.{lt-ltb, le-ltb}
use Rattle.bit_sets.specs.Inner.{member}
use Rattle.bit_sets.proofs.Members.{member_none, member_nil}
use Rattle.trace_events.specs.Events.{events_of, no_event}
use Rattle.basics.specs.Searches.{any_below}
use Rattle.trace_events.specs.Inner.{precedes}
use Rattle.trace_events.proofs.TraceLaws.{length_events, event_at_lem}
use Rattle.happens_before.specs.Types.{Event, Trace}
use Rattle.happens_before.specs.Causality.{step, before, through}
use Rattle.happens_before.specs.Inner.{no_members, bit, HappensBefore}
use Rattle.happens_before.proofs.Chains.{before_end}

-- the rows of the events below n are filled, and the others are empty
abbrev pub Filled : ℕ → List Event → ℕ → List (List ℕ) → Type 0
Filled delay es n rows = (i j : ℕ) → bit rows i j ≡ (ltb j n && before delay es i j)

-- a step between two lines of a trace, as its array holds them
pub step_at : (delay : ℕ) (t : Trace) → t.len ≤ length t.events → (i j : ℕ) → i < j → j < t.len
    → step delay (events_of t) i j ≡ precedes delay (get_or t.events i no_event) (get_or t.events j no_event)
unfolding step
step_at delay t h i j l m =
    simp (lt-ltb i j l, lt-ltb j (length (events_of t)) (omega (arith, length_events t h)))
    (ap₂ (precedes delay) (event_at_lem t i (omega arith)) (event_at_lem t j m))

-- a turn of filling the row of j: event k, with its row, where it directly precedes j
pub joined : (delay : ℕ) (es : List Event) (i j k : ℕ) {x y z p : Bool} → x ≡ (y || (p && (eqb i k || z))) → y ≡ any_below (through delay es i j) k
    → p ≡ step delay es k j → z ≡ before delay es i k → x ≡ any_below (through delay es i j) (k + 1)
joined delay es i j k e f g h = rw add-one (cc)

module _ (delay : ℕ) (es : List Event) (rows : List (List ℕ)) (n : ℕ) where
  -- a filled row
  pub filled_at : Filled delay es n rows → (i j : ℕ) → j < n → member (get_or rows j []) i ≡ before delay es i j
  unfolding bit
  filled_at f i j l = rw (lt-ltb j n l) at (f i j)

  -- a row more
  pub filled_more : (row : List ℕ) → n < length rows → Filled delay es n rows → ((i : ℕ) → member row i ≡ before delay es i n) → Filled delay es (n + 1) (set rows n row)
  unfolding bit
  filled_more row l f here i j =
      elim (ℕ_discrete j n) [
        | yes e ↦ rw (e, get_or-set_same rows n row [] l, lt-ltb n (n + 1) (omega arith)) (here i)
        | no ne ↦ rw (get_or-set_other rows n j row [] ne) (f i j ∙ ap (λ b. b && before delay es i j) (same ne))
      ]
    where
      same : (j ≡ n → ⊥) → ltb j n ≡ ltb j (n + 1)
      same ne = elim (dec_lt j n) [ yes m ↦ lt-ltb j n m ∙ sym (lt-ltb j (n + 1) (omega arith)) | no ge ↦ le-ltb j n (omega arith) ∙ sym (le-ltb j (n + 1) (omega arith)) ]

  -- all rows of a trace
  pub filled_all : length es ≡ n → Filled delay es n rows → HappensBefore delay es rows
  filled_all e f i j =
      elim (dec_lt j n) [ yes m ↦ rw (lt-ltb j n m) at (f i j) | no ge ↦ f i j ∙ (rw (le-ltb j n (omega arith), before_end delay es i j (omega arith)) refl) ]

-- no row
pub filled_none : (delay : ℕ) (es : List Event) (n : ℕ) → Filled delay es 0 (replicate n no_members)
unfolding bit
filled_none delay es n i j = rw (le-ltb j 0 (omega arith)) (none (dec_lt j n))
  where
    none : Dec (j < n) → member (get_or (replicate n no_members) j []) i ≡ false
    none (yes m) = ap (λ row. member row i) (get_or-replicate n j no_members [] m) ∙ member_none 4 i
    none (no ge) =
        ap (λ row. member row i) (get_or-eq_default (replicate n no_members) [] {n = j} (omega (arith, length-replicate n no_members))) ∙ member_nil i
