-- A head is read from its own text, and from no other.
use mathlib.Core.Path.{refl}
use native.Mathlib.Omega.{arith}
use Rattle.basics.specs.Text.{bytes}
use Rattle.text_numbers.specs.Number.{is_digit}
use Rattle.text_numbers.specs.Format.{Follows, Format}
use Rattle.text_numbers.proofs.Numbers.{number_format}
use Rattle.text_numbers.proofs.Format.{space_ends, keyed_format, along, both_format}
use Rattle.trace_tokens.proofs.TokenListFormat.{tokens_format}
use Rattle.trace_head.specs.Types.{Head}
use Rattle.trace_head.specs.Heads.{print_head, read_head, HeadWritten}

pub head_format : Format HeadWritten print_head read_head
unfolding print_head read_head
head_format =
    along (λ (h : Head). (h.ins, (h.outs, (h.from, h.to)))) _
    (λ h o. ((o.ins, (o.outs, (o.from, o.to))), refl))
    (λ h (i, (o, (f, t))). (record { ins = i; outs = o; from = f; to = t }, refl))
    (both_format (λ h rest e. space_ends _) (keyed_format (bytes "in=") tokens_format)
    (both_format (λ h rest e. space_ends _) (keyed_format (bytes " out=") tokens_format)
    (both_format (λ h rest e. space_ends _) (keyed_format (bytes " from=") (number_format 4294967295 (omega arith)))
    (keyed_format (bytes " to=") (number_format 4294967295 (omega arith))))))

pub head_follows : Follows print_head
unfolding print_head is_digit
head_follows h rest e = record { digit = refl; comma = refl }
