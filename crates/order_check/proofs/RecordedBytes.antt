-- Of the bytes 0, 1, 2 and so on the first n are the recorded order of n events. Assumes nothing.
use mathlib.Core.Path.{◌≡◌, sym, ◌∙◌}
use mathlib.Core.List.{List}
use Prim.Native.Nat.{ℕ, zero, suc, ◌+◌, ◌≤◌, ◌<◌}
use native.Mathlib.Omega.{arith}
use lib.ListN.{length, get_or, take}
use lib.Seq.{ext_get_or, get_or-take, length-take-le}
use Rattle.order_meaning.specs.Orders.{from}
use Rattle.order_check.proofs.Accepted.{recorded_order}

place_in : (b n i : ℕ) → i < n → get_or (from b n) i 0 ≡ b + i
place_in b zero i h = absurd (omega arith)
place_in b (suc n) zero h = omega arith
place_in b (suc n) (suc i) h = omega (arith, place_in (suc b) n i (omega arith))

pub recorded_prefix : (r : List ℕ) → length r ≡ 256 → ((i : ℕ) → i < 256 → get_or r i 0 ≡ i) → (n : ℕ) → n ≤ 256 → take n r ≡ from 0 n
recorded_prefix r size each n few =
    let long : length (take n r) ≡ n = length-take-le n r (omega arith) in
    ext_get_or 0 (take n r) (from 0 n) (long ∙ sym (recorded_order n).size)
    (λ i h. get_or-take n r i 0 (omega arith) ∙ omega (arith, each i (omega arith), place_in 0 n i (omega arith)))
