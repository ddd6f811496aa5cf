-- The counts: pairs = ordered + commuting + listed (`counts_add`); n(n-1)/2 pairs for n table events of a switch, summed over the 16
-- switches (`pairs_count`). Assumes nothing.
use Prim.Native.Nat.{ℕ, zero, suc, ◌+◌, ◌-◌, ◌*◌, ◌<◌, ◌≤◌}
use native.Mathlib.Nat.{suc-mul, mul-suc, add-zero}
use native.Mathlib.Numerals.{add-one}
use native.Mathlib.Omega.{arith}
use mathlib.Core.Path.{◌≡◌, refl, sym, ap, ◌∙◌}
use mathlib.Core.Bool.{Bool, true, false, not, ◌&&◌}
use mathlib.Core.List.{List}
use lib.Dec.{ltb}
use lib.ListN.{length, length-append}
use borrow.Author.Tests.{lt-ltb, eq-eqb, ne_eqb}
use Rattle.basics.proofs.Booleans.{split}
use Rattle.flow_table.specs.FlowTable.{effect_of}
use Rattle.commuting.specs.Commuting.{commutes}
use Rattle.flow_table.specs.Switches.{uses_table, switch_of}
use Rattle.list_verdicts.specs.Kinds.{paired, pairs, ordered, commuting, listed}
use Rattle.trace_events.specs.Events.{event_at}
use Rattle.happens_before.specs.Causality.{before}
use Rattle.list_pairs.specs.Types.{Event}
use Rattle.list_pairs.specs.List.{test, cell, pairs_where, of_kind, count}
use Rattle.basics.specs.Searches.{gather, size, count_below, sum_below}
use Rattle.list_pairs.specs.Counting.{on_table, table_events, choose}
use Rattle.list_pairs.proofs.PairLaws.{row_start}
use Rattle.basics.proofs.Gathered.{size_only, gather_sum, count_same, count_none, sum_at, sum_same}

parts : (l p o m : Bool) → size (l && p) ≡ size (l && (p && o)) + size (l && (p && (not o && m))) + size (l && (p && (not o && not m)))
parts true true true m = refl
parts true true false true = refl
parts true true false false = refl
parts true false o m = refl
parts false p o m = refl

-- pairs = ordered + commuting + listed
pub counts_add : (delay : ℕ) (es : List Event) → count delay pairs es ≡ count delay ordered es + count delay commuting es + count delay listed es
unfolding pairs_where test
counts_add delay es =
    gather_sum _ _ _ _
    (λ i. gather_sum (cell (test delay pairs es) i) (cell (test delay ordered es) i) (cell (test delay commuting es) i) (cell (test delay listed es) i)
    (λ j. simp size_only (parts (ltb i j) (paired (event_at es i).operation (event_at es j).operation) (before delay es i j)
    (commutes (effect_of (event_at es i).operation) (effect_of (event_at es j).operation)))) (length es)) (length es)

-- ---- the number of pairs
-- one number more: as many pairs more as tests with it hold
rows_more : (p : ℕ → ℕ → Bool) (n m : ℕ) → m ≤ n
    → length (gather (λ i. gather (cell p i) (suc n)) m) ≡ length (gather (λ i. gather (cell p i) n) m) + count_below (λ i. p i n) m
rows_more p n zero l = refl
rows_more p n (suc m) l =
    let one : length (cell p m n) ≡ size (p m n) = simp (lt-ltb m n (omega arith)) (size_only (p m n) _) in
    omega (
      arith,
      rows_more p n m (omega arith),
      length-append (gather (λ i. gather (cell p i) (suc n)) m) (gather (cell p m) (suc n)),
      length-append (gather (λ i. gather (cell p i) n) m) (gather (cell p m) n),
      length-append (gather (cell p m) n) (cell p m n),
      one,
    )

where_more : (p : ℕ → ℕ → Bool) (n : ℕ) → length (pairs_where p (suc n)) ≡ length (pairs_where p n) + count_below (λ i. p i n) n
unfolding pairs_where
where_more p n =
    let none : length (gather (cell p n) (suc n)) ≡ 0 = ap length (rw add-one at (row_start p n)) in
    omega (arith, length-append (gather (λ i. gather (cell p i) (suc n)) n) (gather (cell p n) (suc n)), none, rows_more p n n (omega arith))

-- one more thing makes a pair with each other
product : (n : ℕ) → (n + 1) * n ≡ n * (n - 1) + 2 * n
product zero = refl
product (suc n) =
    let e : suc n - 1 ≡ n = omega arith in
    let f : suc n + 1 ≡ suc (suc n) = omega arith in
    rw (e, f) (omega (arith, mul-suc (suc n) n, suc-mul (suc n) (suc n)))

choose_more : (n : ℕ) → choose (n + 1) ≡ choose n + n
unfolding choose
choose_more n =
    let e : n + 1 - 1 ≡ n = omega arith in
    rw e (omega (arith, product n))

-- the pairs of a new event n: one with each that uses the same table
pairs_with : (delay : ℕ) (es : List Event) (n : ℕ) → uses_table (event_at es n).operation ≡ true
    → count_below (λ i. test delay pairs es i n) n ≡ table_events es n (switch_of (event_at es n).operation)
unfolding test paired table_events on_table
pairs_with delay es n e = count_same _ _ (λ k. rw e refl) n

pairs_without : (delay : ℕ) (es : List Event) (n : ℕ) → uses_table (event_at es n).operation ≡ false → count_below (λ i. test delay pairs es i n) n ≡ 0
unfolding test paired
pairs_without delay es n e = count_none _ (λ k. rw e (none (uses_table (event_at es k).operation))) n
  where
    none : (b : Bool) → (b && false) ≡ false
    none true = refl
    none false = refl

-- how a new event changes the numbers of table events
module _ (es : List Event) (n w : ℕ) where
  events_more : (b : Bool) → on_table w (event_at es n).operation ≡ b → table_events es (suc n) w ≡ table_events es n w + size b
  unfolding table_events
  events_more b e = ap (λ (t : Bool). count_below (λ k. on_table w (event_at es k).operation) n + size t) e

  not_on : uses_table (event_at es n).operation ≡ false → on_table w (event_at es n).operation ≡ false
  unfolding on_table
  not_on e = rw e refl

  on_other : (w ≡ switch_of (event_at es n).operation → ⊥) → uses_table (event_at es n).operation ≡ true → on_table w (event_at es n).operation ≡ false
  unfolding on_table
  on_other ne e = rw e (ne_eqb (switch_of (event_at es n).operation) w (λ q. ne (sym q)))

  on_it : w ≡ switch_of (event_at es n).operation → uses_table (event_at es n).operation ≡ true → on_table w (event_at es n).operation ≡ true
  unfolding on_table
  on_it q e = rw e (eq-eqb (switch_of (event_at es n).operation) w (sym q))

nothing : (delay : ℕ) (es : List Event) → length (of_kind delay pairs es 0) ≡ sum_below (λ w. choose (table_events es 0 w)) 16
unfolding pairs_where table_events choose
nothing delay es = refl

-- n(n-1)/2 pairs for n table events of a switch, summed over the 16 switches
pairs_below : (delay : ℕ) (es : List Event) (n : ℕ) → ((k : ℕ) → k < n → switch_of (event_at es k).operation < 16)
    → length (of_kind delay pairs es n) ≡ sum_below (λ w. choose (table_events es n w)) 16
pairs_below delay es zero h = nothing delay es
pairs_below delay es (suc n) h =
    let ih = pairs_below delay es n (λ k l. h k (omega arith)) in
    let v = switch_of (event_at es n).operation in
    split (uses_table (event_at es n).operation)
    (λ e. omega (
      arith,
      where_more (test delay pairs es) n,
      pairs_with delay es n e,
      sum_at (λ w. choose (table_events es (suc n) w)) (λ w. choose (table_events es n w)) v (table_events es n v)
          (λ w ne. ap choose (events_more es n w false (on_other es n w ne e) ∙ add-zero (table_events es n w)))
          (ap choose (events_more es n v true (on_it es n v refl e)) ∙ choose_more (table_events es n v)) 16 (h n (omega arith)),
      ih,
    ))
    (λ e. omega (
      arith,
      where_more (test delay pairs es) n,
      pairs_without delay es n e,
      sum_same (λ w. choose (table_events es (suc n) w)) (λ w. choose (table_events es n w))
          (λ w. ap choose (events_more es n w false (not_on es n w e) ∙ add-zero (table_events es n w))) 16,
      ih,
    ))

pub pairs_count : (delay : ℕ) (es : List Event) → ((k : ℕ) → k < length es → switch_of (event_at es k).operation < 16)
    → count delay pairs es ≡ sum_below (λ w. choose (table_events es (length es) w)) 16
pairs_count delay es h = pairs_below delay es (length es) h
