-- What stands in a list of pairs: the numbers i < j < n of which the test holds, and no others. Assumes nothing.
use Prim.Native.Nat.{ℕ, ◌<◌}
use native.Mathlib.Omega.{arith}
use mathlib.Core.Path.{◌≡◌, ap, ◌∙◌}
use mathlib.Core.Logic.{◌↔◌}
use mathlib.Core.Bool.{Bool, true, ◌&&◌}
use mathlib.Core.List.{Memᴰ}
use lib.Dec.{ltb}
use borrow.Author.Tests.{lt-ltb, ltb-true}
use Rattle.basics.proofs.Gathered.{gather_in, only_in, in_gather, in_only}
use Rattle.basics.proofs.Booleans.{and_left, and_right, and_intro}
use Rattle.list_pairs.specs.List.{Pair, cell, pairs_where}
use Rattle.basics.specs.Searches.{gather}

pub pairs_in : (p : ℕ → ℕ → Bool) (n i j : ℕ) → Memᴰ (record { lower = i; higher = j }) (pairs_where p n) ↔ ((i < j) × (j < n) × (p i j ≡ true))
unfolding pairs_where
pairs_in p n i j = (found, put)
  where
    found : Memᴰ (record { lower = i; higher = j }) (gather (λ m. gather (cell p m) n) n) → (i < j) × (j < n) × (p i j ≡ true)
    found h =
        let r = gather_in (record { lower = i; higher = j }) (λ m. gather (cell p m) n) n h in
        let s = gather_in (record { lower = i; higher = j }) (cell p r.0) n r.2 in
        let o = only_in (record { lower = i; higher = j }) (record { lower = r.0; higher = s.0 }) (ltb r.0 s.0 && p r.0 s.0) s.2 in
        let ei : i ≡ r.0 = ap (λ (q : Pair). q.lower) o.0 in
        let ej : j ≡ s.0 = ap (λ (q : Pair). q.higher) o.0 in (
          omega (arith, ltb-true r.0 s.0 (and_left (ltb r.0 s.0) (p r.0 s.0) o.1)),
          omega (arith, s.1),
          ap (λ (a : ℕ). p a j) ei ∙ ap (λ (b : ℕ). p r.0 b) ej ∙ and_right (ltb r.0 s.0) (p r.0 s.0) o.1,
        )

    put : (i < j) × (j < n) × (p i j ≡ true) → Memᴰ (record { lower = i; higher = j }) (gather (λ m. gather (cell p m) n) n)
    put h =
        in_gather _ (λ m. gather (cell p m) n) n i (omega (arith, h.0, h.1))
        (in_gather _ (cell p i) n j h.1 (in_only _ (ltb i j && p i j) (and_intro (lt-ltb i j h.0) h.2)))
