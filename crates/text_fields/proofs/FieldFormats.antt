-- The texts of `*` or a number, and of a prefix.
use Prim.Native.Nat.{ℕ, ◌+◌, ◌≤◌, ◌<◌, ◌^◌}
use mathlib.Core.Logic.{◌⊎◌, inl, inr}
use mathlib.Core.Path.{◌≡◌, refl}
use native.Mathlib.Omega.{arith}
use Rattle.basics.specs.Text.{bytes}
use Rattle.text_numbers.specs.Reading.{mapped}
use Rattle.text_numbers.specs.Number.{is_digit, read_number}
use Rattle.text_numbers.specs.Print.{print_number}
use Rattle.text_numbers.proofs.Numbers.{number_format}
use Rattle.text_numbers.proofs.HexLaws.{hex_format}
use Rattle.text_numbers.proofs.Format.{Format, keyed_format, along, both_format}
use Rattle.text_numbers.proofs.Words.{word_format, number_apart}
use Rattle.flow.specs.Matches.{ExactInRange}
use Rattle.flow.specs.Inner.{exact_point}
use Rattle.text_fields.specs.Types.{Exact, Prefix}
use Rattle.text_fields.specs.Print.{print_exact, print_prefix}
use Rattle.text_fields.specs.Read.{read_exact, read_prefix}
use Rattle.text_fields.specs.Written.{PrefixWritten}

-- ---- `*`, or a number
-- a field that is a number
abbrev NumberIn : ℕ → Exact → Type 0
NumberIn w Exact.Any = ⊥
NumberIn w (Exact.Is v) = v < w

module _ (max : ℕ) (h : max < 10 ^ 20) where
  to : (x : Exact) → NumberIn (max + 1) x → (exact_point x ≤ max) × (Exact.Is (exact_point x) ≡ x)
  to Exact.Any o = absurd o
  to (Exact.Is v) o = (omega arith, refl)

  number_field : Format (NumberIn (max + 1)) (λ x. print_number (exact_point x)) (mapped Exact.Is (read_number max))
  number_field = along exact_point Exact.Is to (λ v o. (omega arith, refl)) (number_format max h)

  any_or : (x : Exact) → ExactInRange (max + 1) x → (x ≡ Exact.Any) ⊎ NumberIn (max + 1) x
  any_or Exact.Any o = inl refl
  any_or (Exact.Is v) o = inr o

  is_number : (x : Exact) → NumberIn (max + 1) x → ExactInRange (max + 1) x × (print_exact x ≡ print_number (exact_point x))
  unfolding print_exact
  is_number Exact.Any o = absurd o
  is_number (Exact.Is v) o = (o, refl)

  pub exact_format : Format (ExactInRange (max + 1)) print_exact (read_exact max)
  unfolding print_exact read_exact
  exact_format = word_format (bytes "*") Exact.Any (tt, refl) any_or is_number (λ x o rest. number_apart (exact_point x) 42 _ rest (omega arith)) number_field

-- ---- an address, and the length
pub prefix_format : Format PrefixWritten print_prefix read_prefix
unfolding print_prefix read_prefix is_digit
prefix_format =
    along (λ (p : Prefix). (p.value, p.length)) (λ (v, n). record { value = v; length = n })
    (λ p o. ((o.value, o.length), refl)) (λ p o. (record { value = o.0; length = o.1 }, refl))
    (both_format (λ n rest e. record { digit = refl; comma = refl }) hex_format
    (keyed_format (bytes "/") (number_format 32 (omega arith))))
