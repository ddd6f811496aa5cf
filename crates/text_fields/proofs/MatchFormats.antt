-- The texts of a match and of a packet.
use Prim.Native.Nat.{ℕ, ◌<◌, ◌^◌}
use mathlib.Core.List.{List}
use mathlib.Core.Path.{refl}
use native.Mathlib.Omega.{arith}
use Rattle.basics.specs.Text.{bytes}
use Rattle.text_numbers.specs.Reading.{Reader}
use Rattle.text_numbers.proofs.Numbers.{number_format}
use Rattle.text_numbers.proofs.HexLaws.{hex_format}
use Rattle.text_numbers.proofs.Format.{Follows, Format, space_ends, keyed_format, along, both_format}
use Rattle.flow.specs.Matches.{PacketInRange}
use Rattle.text_fields.specs.Types.{Match, Packet}
use Rattle.text_fields.specs.Print.{print_last, print_fields, print_match, print_packet}
use Rattle.text_fields.specs.Read.{read_last, read_fields, match_from, packet_from, read_match, read_packet}
use Rattle.text_fields.specs.Written.{MatchWritten}
use Rattle.text_fields.proofs.FieldFormats.{exact_format, prefix_format}

pub match_follows : Follows print_match
unfolding print_match print_fields
match_follows m rest e = space_ends _

pub packet_follows : Follows print_packet
unfolding print_packet print_fields
packet_follows p rest e = space_ends _

-- the fields, by the formats of a number at most so large and of an address
module _ {N A : Type 0} {okN : ℕ → N → Type 0} {okA : A → Type 0} {number : N → List ℕ} {address : A → List ℕ} {readN : ℕ → Reader N} {read_a : Reader A}
    (numbers : (max : ℕ) → max < 10 ^ 20 → Format (okN max) number (readN max)) (addresses : Format okA address read_a) where
  fields_format : Format
      (λ (p : N × (N × (A × (A × (N × (N × N)))))). okN 65535 p.0 × (okN 4095 p.1.0 × (okA p.1.1.0 × (okA p.1.1.1.0 × (okN 255 p.1.1.1.1.0 × (okN 65535 p.1.1.1.1.1.0 × okN 65535 p.1.1.1.1.1.1))))))
      (λ p. print_fields number address p.0 p.1.0 p.1.1.0 p.1.1.1.0 p.1.1.1.1.0 p.1.1.1.1.1.0 p.1.1.1.1.1.1)
      (read_fields readN read_a)
  unfolding print_fields print_last read_fields read_last
  fields_format =
      both_format (λ f rest e. space_ends _) (keyed_format (bytes " port=") (numbers 65535 (omega arith)))
      (both_format (λ f rest e. space_ends _) (keyed_format (bytes " vlan=") (numbers 4095 (omega arith)))
      (both_format (λ f rest e. space_ends _) (keyed_format (bytes " src=") addresses)
      (both_format (λ f rest e. space_ends _) (keyed_format (bytes " dst=") addresses)
      (both_format (λ f rest e. space_ends _) (keyed_format (bytes " proto=") (numbers 255 (omega arith)))
      (both_format (λ f rest e. space_ends _) (keyed_format (bytes " sport=") (numbers 65535 (omega arith)))
      (keyed_format (bytes " dport=") (numbers 65535 (omega arith))))))))

pub match_format : Format MatchWritten print_match read_match
unfolding print_match read_match
match_format =
    along (λ (m : Match). (m.port, (m.vlan, (m.src, (m.dst, (m.proto, (m.sport, m.dport))))))) match_from
    (λ m o. ((o.port, (o.vlan, (o.src, (o.dst, (o.proto, (o.sport, o.dport)))))), refl))
    (λ f (port, (vlan, (src, (dst, (proto, (sport, dport)))))). (record { port = port; vlan = vlan; src = src; dst = dst; proto = proto; sport = sport; dport = dport }, refl))
    (fields_format exact_format prefix_format)

pub packet_format : Format PacketInRange print_packet read_packet
unfolding print_packet read_packet
packet_format =
    along (λ (p : Packet). (p.port, (p.vlan, (p.src, (p.dst, (p.proto, (p.sport, p.dport))))))) packet_from
    (λ p o. ((omega arith, (omega arith, (o.src, (o.dst, (omega arith, (omega arith, omega arith)))))), refl))
    (λ f (port, (vlan, (src, (dst, (proto, (sport, dport)))))). (record { port = omega arith; vlan = omega arith; src = src; dst = dst; proto = omega arith; sport = omega arith; dport = omega arith }, refl))
    (fields_format number_format hex_format)
