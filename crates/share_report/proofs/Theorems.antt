-- What is printed tells the share (`share_told`). Assumes nothing.
use Prim.Native.Nat.{ℕ, ◌^◌, ◌<◌}
use mathlib.Core.Path.{◌≡◌, sym, ◌∙◌}
use mathlib.Core.List.{List, [], ◌∷◌, ◌++◌, append_assoc}
use Rattle.basics.specs.Text.{bytes}
use Rattle.text_numbers.specs.Format.{Ends}
use Rattle.refusals_text.specs.Report.{key_number}
use Rattle.refusals_text.proofs.Told.{lf_ends, space_ends, key_number_told}
use Rattle.share_report.specs.Types.{Share}
use Rattle.share_report.specs.Report.{share_line}

-- the line from each number on
abbrev divisor_part : Share → List ℕ
divisor_part x = key_number (bytes " divisor=") x.divisor ++ 10 ∷ []

abbrev remainder_part : Share → List ℕ
remainder_part x = key_number (bytes " remainder=") x.remainder ++ divisor_part x

line_is : (x : Share) → share_line x ≡ key_number (bytes "share=") x.quotient ++ remainder_part x
unfolding share_line
line_is x = simp append_assoc

remainder_ends : (x : Share) → Ends (remainder_part x)
unfolding key_number
remainder_ends x = space_ends _

divisor_ends : (x : Share) → Ends (divisor_part x)
unfolding key_number
divisor_ends x = space_ends _

-- at most 20 digits each
abbrev Short : Share → Type 0
Short x = (x.quotient < 10 ^ 20) × (x.remainder < 10 ^ 20) × (x.divisor < 10 ^ 20)

-- one line is one share
pub share_told : (x y : Share) → Short x → Short y → share_line x ≡ share_line y → x ≡ y
share_told x y l m e =
    let (q, f) = key_number_told (bytes "share=") x.quotient y.quotient (remainder_part x) (remainder_part y) l.0 m.0 (remainder_ends x) (remainder_ends y) (sym (line_is x) ∙ e ∙ line_is y) in
    let (r, g) = key_number_told (bytes " remainder=") x.remainder y.remainder (divisor_part x) (divisor_part y) l.1 m.1 (divisor_ends x) (divisor_ends y) f in
    let (d, h) = key_number_told (bytes " divisor=") x.divisor y.divisor (10 ∷ []) (10 ∷ []) l.2 m.2 (lf_ends []) (lf_ends []) g in
    λ i. record { quotient = q i; remainder = r i; divisor = d i }
