-- The numbers of a token list, as the code tests them. Assumes nothing.
use Prim.Native.Nat.{ℕ, zero, suc}
use mathlib.Core.Path.{◌≡◌, refl, ap, ◌∙◌}
use mathlib.Core.List.{List, [], ◌∷◌}
use mathlib.Core.Bool.{Bool, false, ◌&&◌, ◌||◌, or-false, or_assoc}
use native.Mathlib.Omega.{arith}
use lib.Dec.{ltb, eqb}
use lib.ListN.{take}
use borrow.Author.Tests.{lt-ltb}
use Rattle.basics.specs.Searches.{has, any_in, shares}
use Rattle.trace_events.specs.Types.{Tokens}
use Rattle.trace_events.specs.Events.{tokens_of}

none_passes : (p : ℕ → Bool) (n : ℕ) → any_in p (take n []) ≡ false
none_passes p zero = refl
none_passes p (suc n) = refl

-- some number of the list passes the test
tested : (p : ℕ → Bool) (s : Tokens)
    → ((ltb 0 s.count && p s.t0) || (ltb 1 s.count && p s.t1) || (ltb 2 s.count && p s.t2) || (ltb 3 s.count && p s.t3)) ≡ any_in p (tokens_of s)
unfolding tokens_of
tested p s = go s.count s.t0 s.t1 s.t2 s.t3
  where
    go : (n a b c d : ℕ) → ((ltb 0 n && p a) || (ltb 1 n && p b) || (ltb 2 n && p c) || (ltb 3 n && p d)) ≡ any_in p (take n (a ∷ b ∷ c ∷ d ∷ []))
    go zero a b c d = refl
    go (suc zero) a b c d = simp or-false
    go (suc (suc zero)) a b c d = simp or-false
    go (suc (suc (suc zero))) a b c d = simp (or-false, or_assoc)
    go (suc (suc (suc (suc n)))) a b c d =
        let m = suc (suc (suc (suc n))) in
        simp (lt-ltb 0 m (omega arith), lt-ltb 1 m (omega arith), lt-ltb 2 m (omega arith), lt-ltb 3 m (omega arith), none_passes p n, or-false, or_assoc)

has_any : (t : ℕ) (ts : List ℕ) → any_in (λ u. eqb t u) ts ≡ has t ts
has_any t [] = refl
has_any t (u ∷ ts) = ap (λ b. eqb t u || b) (has_any t ts)

pub has_tested : (t : ℕ) (s : Tokens)
    → ((ltb 0 s.count && eqb t s.t0) || (ltb 1 s.count && eqb t s.t1) || (ltb 2 s.count && eqb t s.t2) || (ltb 3 s.count && eqb t s.t3)) ≡ has t (tokens_of s)
has_tested t s = tested (λ u. eqb t u) s ∙ has_any t (tokens_of s)

pub shares_tested : (s : Tokens) (ts : List ℕ)
    → ((ltb 0 s.count && has s.t0 ts) || (ltb 1 s.count && has s.t1 ts) || (ltb 2 s.count && has s.t2 ts) || (ltb 3 s.count && has s.t3 ts)) ≡ shares (tokens_of s) ts
unfolding shares
shares_tested s ts = tested (λ t. has t ts) s
