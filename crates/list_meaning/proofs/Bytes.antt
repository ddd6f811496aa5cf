-- A list of pairs in a buffer: pair k is the bytes 2k and 2k + 1, and what comes after the list stays (`pairs_put`). Assumes nothing.
use Prim.Native.Nat.{ℕ, zero, suc, ◌+◌, ◌-◌, ◌*◌, ◌≤◌, ◌<◌}
use native.Mathlib.Omega.{arith}
use mathlib.Core.Path.{◌≡◌, sym, ap, ◌∙◌}
use mathlib.Core.List.{List, [], ◌∷◌, ◌++◌}
use Rattle.std.specs.Prelude.{Some}
use Rattle.std.proofs.lemmas.Option.{same_Some}
use lib.ListN.{length, get_or, drop, length-append, length-drop, get_or-append}
use Rattle.std.specs.List.{slice_get}
use lib.Seq.{get_or-append-add, get_or-drop}
use Rattle.basics.specs.Text.{starting_with}
use Rattle.text_numbers.proofs.Readers.{nothing}
use Rattle.list_pairs.specs.List.{Pair, pair_bytes}
use Rattle.list_pairs.proofs.PairLaws.{bytes_length}
use Rattle.list_meaning.specs.Calls.{HasPairs}

inside : (ps : List Pair) (k : ℕ) (p : Pair) → slice_get ps k ≡ Some p → k < length ps
inside [] k p e = nothing e
inside (q ∷ ps) zero p e = omega arith
inside (q ∷ ps) (suc k) p e = omega (arith, inside ps k p e)

pub bytes_at : (ps : List Pair) (k : ℕ) (p : Pair) → slice_get ps k ≡ Some p
    → (get_or (pair_bytes ps) (2 * k) 0 ≡ p.lower) × (get_or (pair_bytes ps) (2 * k + 1) 0 ≡ p.higher)
bytes_at [] k p e = nothing e
bytes_at (q ∷ ps) zero p e = let s : q ≡ p = same_Some _ _ e in (ap (λ (x : Pair). x.lower) s, ap (λ (x : Pair). x.higher) s)
bytes_at (q ∷ ps) (suc k) p e =
    let even : 2 * suc k ≡ suc (suc (2 * k)) = omega arith in
    let odd : 2 * suc k + 1 ≡ suc (suc (2 * k + 1)) = omega arith in
    let r = bytes_at ps k p e in
    (ap (λ (n : ℕ). get_or (pair_bytes (q ∷ ps)) n 0) even ∙ r.0, ap (λ (n : ℕ). get_or (pair_bytes (q ∷ ps)) n 0) odd ∙ r.1)

module _ (ps : List Pair) (old : List ℕ) (room : 2 * length ps ≤ length old) where
  in_list : (n : ℕ) → n < 2 * length ps → get_or (starting_with (pair_bytes ps) old) n 0 ≡ get_or (pair_bytes ps) n 0
  in_list n l = get_or-append (pair_bytes ps) (drop (length (pair_bytes ps)) old) 0 n (omega (arith, bytes_length ps))

  pub pairs_put : HasPairs ps old (starting_with (pair_bytes ps) old)
  pairs_put = record {
    size = omega (arith, bytes_length ps, length-append (pair_bytes ps) (drop (length (pair_bytes ps)) old), length-drop (length (pair_bytes ps)) old);
    pairs = λ k p e.
        let l = inside ps k p e in
        let r = bytes_at ps k p e in
        (in_list (2 * k) (omega arith) ∙ r.0, in_list (2 * k + 1) (omega arith) ∙ r.1);
    rest = λ m l.
        let b = pair_bytes ps in
        let e : m ≡ length b + (m - length b) = omega (arith, bytes_length ps) in
        ap (λ (n : ℕ). get_or (starting_with b old) n 0) e ∙ get_or-append-add b (drop (length b) old) (m - length b) 0
        ∙ get_or-drop (length b) old (m - length b) 0 ∙ ap (λ (n : ℕ). get_or old n 0) (sym e);
  }
