-- `prefix::mask`: in 64 bits neither the shift loses a bit nor is the difference negative, and the difference has 32 bits.
use mathlib.Core.Path.{◌≡◌, ap, ◌∙◌}
use Prim.Native.Nat.{ℕ, ◌*◌, ◌%◌, ◌-◌, ◌^◌, ◌≤◌, ◌<◌}
use native.Mathlib.Omega.{arith}
use lib.Pow.{pow_pos, pow_mono, shl_exact}
use Rattle.flow.specs.Matches.{mask_of}
use Rattle.flow.proofs.prefix.mask.Goals as goal

-- `prefix::mask`: in 64 bits neither the shift loses a bit nor is the difference negative, and the difference has 32 bits.
-- the shifted one, which is what the formula takes from 2 ^ 32
shifted : (n p : ℕ) → p ≡ 32 - n → (1 * 2 ^ p % 2 ^ 64 ≡ 2 ^ (32 - n)) × (2 ^ (32 - n) ≤ 2 ^ 32) × (0 < 2 ^ (32 - n))
shifted n p e = (
  shl_exact {a = 1} 1 p 64 (omega arith) (omega arith) ∙ omega arith ∙ ap (λ (k : ℕ). 2 ^ k) e,
  pow_mono {i = 32 - n} {j = 32} (omega arith),
  pow_pos (32 - n),
)

pub overflow_sub-result : goal.overflow_sub-result
overflow_sub-result c = omega (arith, shifted _ _ c.saturating_sub-past.ensures)

pub overflow_cast-result-2 : goal.overflow_cast-result-2
overflow_cast-result-2 c = let h = shifted _ _ c.saturating_sub-past.ensures in record { fits = omega arith }

pub returns : goal.returns
unfolding mask_of
returns c = omega (arith, shifted _ _ c.saturating_sub-past.ensures)
