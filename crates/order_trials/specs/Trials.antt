-- Document 01, "Many orders": orders end to end, and the byte of each.
use Rattle.std.specs.Prelude.{Bool, not, cond, List, [], ◌∷◌, ℕ, ◌*◌, ◌/◌, eqb, length, take, drop, Ok, Err}
use Rattle.basics.specs.Searches.{gather}
use Rattle.flow_table.specs.Switches.{Tables}
use Rattle.refusals.specs.Checks.{Checked}
use Rattle.order_check.specs.Schedule.{check_order}
use Rattle.order_rows.specs.Runs.{recorded}
use Rattle.order_trials.specs.Types.{Event}
use Rattle.order_trials.specs.Same.{agreeing}

-- ---- orders of n events each, end to end
-- how many there are in so many bytes; none of no events
unfoldable pub order_count : ℕ → ℕ → ℕ
order_count n len = cond (eqb n 0) 0 (len / n)

-- so many bytes are no multiple of n; of 0 only 0 is one
unfoldable pub uneven : ℕ → ℕ → Bool
uneven n len = not (eqb (order_count n len * n) len)

-- order k
unfoldable pub order_at : ℕ → List ℕ → ℕ → List ℕ
order_at n os k = take n (drop (k * n) os)

-- ---- the byte of an order: 2 where 21 or 22 refuses it; else 0 where it agrees with the recorded order, 1 where it doesn't
abbrev pub byte_by : Checked (Unit {0}) → Bool → ℕ
byte_by (Err r) same = 2
byte_by (Ok u) same = cond same 0 1

unfoldable pub order_byte : ℕ → List Event → Tables → List ℕ → ℕ
order_byte delay es start o = byte_by (check_order delay es o) (agreeing es start o (recorded es))

-- a byte an order
unfoldable pub order_bytes : ℕ → List Event → Tables → List ℕ → List ℕ
order_bytes delay es start os = gather (λ k. order_byte delay es start (order_at (length es) os k) ∷ []) (order_count (length es) (length os))
