-- The bytes of the orders, one after the other. Assumes nothing.
use mathlib.Core.Path.{◌≡◌, sym, ap, ◌∙◌, subst}
use mathlib.Core.List.{List, [], ◌∷◌, ◌++◌, append_assoc}
use Prim.Native.Nat.{ℕ, suc, ◌+◌, ◌-◌, ◌*◌, ◌<◌}
use native.Mathlib.Numerals.{add-one}
use native.Mathlib.Omega.{arith}
use lib.ListN.{length, get_or, set, take, drop}
use lib.Seq.{set_at, drop-cons}
use Rattle.basics.specs.Searches.{gather}
use Rattle.basics.specs.Text.{starting_with}
use Rattle.flow_table.specs.Switches.{Tables}
use Rattle.order_rows.specs.Runs.{recorded}
use Rattle.order_trials.specs.Trials.{order_count, order_at, order_byte, order_bytes}
use Rattle.order_trials.proofs.Counting.{singles_length, bytes_length}
use Rattle.slots_run.specs.Inner.{EndsAs}
use Rattle.trials_call.specs.Types.{Event, Row, Ended, Steps, State}
use Rattle.trials_call.specs.Inner.{From, Ready}

-- ---- the first k bytes are written
abbrev pub filled : (ℕ → ℕ) → List ℕ → ℕ → List ℕ
filled f old k = gather (λ j. f j ∷ []) k ++ drop k old

pub fill_turn : (f : ℕ → ℕ) (old out : List ℕ) (k y : ℕ) → k < length old → out ≡ filled f old k → y ≡ f k → set out k y ≡ filled f old (k + 1)
fill_turn f old out k y h e q =
    let g = gather (λ j. f j ∷ []) k in
    ap (λ l. set l k y) (e ∙ ap (λ l. g ++ l) (drop-cons old k 0 h))
    ∙ set_at g (get_or old k 0) (drop (suc k) old) y k (singles_length f k)
    ∙ rw (add-one, q) (sym (append_assoc g (f k ∷ []) (drop (suc k) old)))

-- ---- order k is the part of the bytes from k * n on
pub order_part : (n : ℕ) (os : List ℕ) (k : ℕ) → take (k * n + n - k * n) (drop (k * n) os) ≡ order_at n os k
unfolding order_at
order_part n os k = let e : k * n + n - k * n ≡ n = omega arith in ap (λ (x : ℕ). take x (drop (k * n) os)) e

-- ---- all of them are written
module _ (delay : ℕ) (es : List Event) (start : Tables) (os old : List ℕ) {n m : ℕ} (count : n ≡ length es) (orders : m ≡ order_count n (length os)) where
  abbrev byte : ℕ → ℕ → ℕ
  byte n k = order_byte delay es start (order_at n os k)

  pub all_filled : (k : ℕ) → k ≡ m → {out : List ℕ} → out ≡ filled (byte n) old k → out ≡ starting_with (order_bytes delay es start os) old
  unfolding order_bytes
  all_filled k last {out} e =
      let whole : m ≡ order_count (length es) (length os) = orders ∙ ap (λ (x : ℕ). order_count x (length os)) count in
      let size : length (order_bytes delay es start os) ≡ m = bytes_length delay es start os ∙ sym whole in
      e ∙ ap (filled (byte n) old) last ∙ ap (λ (x : ℕ). filled (byte x) old m) count
      ∙ (λ i. gather (λ j. byte (length es) j ∷ []) (whole i) ++ drop (sym size i) old)

-- ---- what the recorded order leaves
pub recorded_ends : (delay : ℕ) (es : List Event) (rs : List Row) (n : ℕ) (earlier : List (List ℕ)) (steps : Steps) (begun : State) (end : Ended)
    (f : From delay es rs n earlier steps begun) → {o : List ℕ} → o ≡ recorded es → EndsAs es f.slots o begun end
    → Ready delay es rs n earlier steps begun end
recorded_ends delay es rs n earlier steps begun end f p e = record { start = f; ends = subst (λ o. EndsAs es f.slots o begun end) p e }
