-- How many pairs there can be: at most 32,640 of each kind. Assumes nothing.
use Prim.Native.Nat.{ℕ, zero, suc, ◌+◌, ◌-◌, ◌*◌, ◌≤◌}
use native.Mathlib.Nat.{suc-mul, mul-suc, mul-le-mul_left}
use native.Mathlib.Decide.{dec_lt}
use native.Mathlib.Omega.{arith}
use mathlib.Core.Path.{◌≡◌, refl}
use mathlib.Core.Bool.{Bool, true, false, ◌&&◌}
use mathlib.Core.List.{List}
use lib.Dec.{ltb}
use lib.ListN.{length, length-append}
use borrow.Author.Tests.{le-ltb}
use Rattle.list_pairs.specs.List.{test, Pair, cell, pairs_where, count}
use Rattle.list_verdicts.specs.Kinds.{Kind}
use Rattle.basics.specs.Searches.{gather, size}
use Rattle.basics.proofs.Gathered.{size_only}
use Rattle.list_pairs.specs.Types.{Event}

size_most : (b : Bool) → size b ≤ 1
size_most true = omega arith
size_most false = omega arith

-- with the lower number i there are no more pairs than numbers above i
row_below : (p : ℕ → ℕ → Bool) (i n : ℕ) → length (gather (cell p i) n) ≤ n - suc i
row_below p i zero = omega arith
row_below p i (suc n) =
    let one = size_only {A = Pair} (ltb i n && p i n) (record { lower = i; higher = n }) in
    let more = length-append (gather (cell p i) n) (cell p i n) in
    elim (dec_lt i n) [
      | yes l ↦ omega (arith, row_below p i n, more, one, size_most (ltb i n && p i n))
      | no l ↦ let none : size (ltb i n && p i n) ≡ 0 = rw (le-ltb i n (omega arith)) refl in omega (arith, row_below p i n, more, one, none)
    ]

rows_below_lem : (p : ℕ → ℕ → Bool) (n m : ℕ) → m ≤ n → 2 * length (gather (λ i. gather (cell p i) n) m) + (m * m + m) ≤ 2 * (m * n)
rows_below_lem p n zero l = omega arith
rows_below_lem p n (suc m) l =
    omega (
      arith,
      rows_below_lem p n m (omega arith),
      length-append (gather (λ i. gather (cell p i) n) m) (gather (cell p m) n),
      row_below p m n,
      suc-mul m n,
      suc-mul m (suc m),
      mul-suc m m,
    )

-- n(n-1)/2 pairs of n numbers, so 32,640 of 256
pairs_most : (p : ℕ → ℕ → Bool) (n : ℕ) → n ≤ 256 → length (pairs_where p n) ≤ 32640
unfolding pairs_where
pairs_most p n l = omega (arith, rows_below_lem p n n (omega arith), mul-le-mul_left n l)

pub count_most : (delay : ℕ) (k : Kind) (es : List Event) → length es ≤ 256 → count delay k es ≤ 32640
count_most delay k es l = pairs_most (test delay k es) (length es) l
