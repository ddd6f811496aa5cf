-- The bytes of a trace's list are events of the trace. Assumes nothing.
use Prim.Native.Nat.{ℕ, zero, suc, ◌<◌}
use native.Mathlib.Omega.{arith}
use mathlib.Core.Path.{◌≡◌, refl}
use mathlib.Core.List.{List, [], ◌∷◌, Memᴰ}
use lib.ListN.{length, get_or, length-take}
use Rattle.trace_events.specs.Events.{events_of}
use Rattle.list_verdicts.specs.Kinds.{listed}
use Rattle.list_pairs.specs.List.{test, Pair, list_of, pair_bytes}
use Rattle.list_pairs.proofs.Members.{pairs_in}
use Rattle.page_text.specs.Types.{Trace}

bytes_below : (n : ℕ) (ps : List Pair) → ((i j : ℕ) → Memᴰ (record { lower = i; higher = j }) ps → (i < n) × (j < n)) → (k : ℕ) → k < length (pair_bytes ps) → get_or (pair_bytes ps) k 0 < n
bytes_below n [] h k l = absurd (omega arith)
bytes_below n (p ∷ ps) h zero l = (h p.lower p.higher (Memᴰ.head refl)).0
bytes_below n (p ∷ ps) h (suc zero) l = (h p.lower p.higher (Memᴰ.head refl)).1
bytes_below n (p ∷ ps) h (suc (suc k)) l = bytes_below n ps (λ i j m. h i j (Memᴰ.tail m)) k (omega arith)

pub list_inside : (delay : ℕ) (t : Trace) (list : List ℕ) → list ≡ pair_bytes (list_of delay (events_of t)) → (k : ℕ) → k < length list → get_or list k 0 < t.len
unfolding events_of
list_inside delay t list e =
    rw e (bytes_below t.len (list_of delay (events_of t)) (λ i j m.
    let q = (pairs_in (test delay listed (events_of t)) (length (events_of t)) i j).0 m in
    let s = length-take t.len t.events in
    (omega (arith, q.0, q.1, s), omega (arith, q.1, s))))
