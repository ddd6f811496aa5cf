-- The match is a field of seven fields side by side, and with that what document 01 says of overlap and within. An eighth field is
-- one more `beside`. Assumes nothing.
use mathlib.Core.Path.{◌≡◌, refl, sym, ◌∙◌}
use mathlib.Core.Logic.{◌↔◌}
use mathlib.Core.Bool.{true, ◌&&◌, true≢false}
use lib.Dec.{lit≤}
use Rattle.flow.specs.Types.{Match, Packet}
use Rattle.flow.specs.Matches.{fits, within, overlaps, MatchInRange, PacketInRange, Overlap, LiesWithin}
use Rattle.flow.specs.Inner.{meet, packet_of}
use Rattle.basics.proofs.Booleans.{split}
use Rattle.flow.proofs.Field.{IsField, beside, along, within_self, shared}
use Rattle.flow.proofs.ExactField.{exact_field}
use Rattle.flow.proofs.PrefixField.{prefix_field}

pub match_field : IsField MatchInRange PacketInRange fits within overlaps meet packet_of
unfolding fits within overlaps meet packet_of
match_field =
    let port = exact_field 65536 (lit≤ tt) in
    let vlan = exact_field 4096 (lit≤ tt) in
    let proto = exact_field 256 (lit≤ tt) in
    let fields = beside port (beside vlan (beside prefix_field (beside prefix_field (beside proto (beside port port))))) in
    along fields MatchInRange PacketInRange
    (λ (m : Match). (m.port, (m.vlan, (m.src, (m.dst, (m.proto, (m.sport, m.dport)))))))
    (λ (p : Packet). (p.port, (p.vlan, (p.src, (p.dst, (p.proto, (p.sport, p.dport)))))))
    (λ x. record { port = x.0; vlan = x.1.0; src = x.1.1.0; dst = x.1.1.1.0; proto = x.1.1.1.1.0; sport = x.1.1.1.1.1.0; dport = x.1.1.1.1.1.1 })
    (λ x. refl)
    (λ m h. (h.port, (h.vlan, (h.src, (h.dst, (h.proto, (h.sport, h.dport)))))))
    (λ x h. record { port = h.0; vlan = h.1.0; src = h.1.1.0; dst = h.1.1.1.0; proto = h.1.1.1.1.0; sport = h.1.1.1.1.1.0; dport = h.1.1.1.1.1.1 })
    meet
    (λ a b h x. refl)
    (λ m n h k. record {
      port = port.meet_ok m.port n.port h.port k.port;
      vlan = vlan.meet_ok m.vlan n.vlan h.vlan k.vlan;
      src = prefix_field.meet_ok m.src n.src h.src k.src;
      dst = prefix_field.meet_ok m.dst n.dst h.dst k.dst;
      proto = proto.meet_ok m.proto n.proto h.proto k.proto;
      sport = port.meet_ok m.sport n.sport h.sport k.sport;
      dport = port.meet_ok m.dport n.dport h.dport k.dport;
    })

module _ (m n : Match) where
  -- two matches overlap just if some packet fits both
  pub overlaps_iff : MatchInRange m → MatchInRange n → (overlaps m n ≡ true) ↔ Overlap m n
  overlaps_iff h k = (
    λ e. let s = shared match_field m n e in (s.0, s.3 h k, s.1, s.2),
    λ s. match_field.fits_overlap m n s.0 s.2 s.3,
  )

  -- one lies within another just if every packet of it fits the other
  pub within_iff : MatchInRange m → MatchInRange n → (within m n ≡ true) ↔ LiesWithin m n
  within_iff h k = (
    λ e p i. match_field.within_fits m n e p,
    λ f. split (within m n) (λ e. e) (λ e. let t = match_field.tells m n e in absurd (true≢false (sym (f t.0 (t.3 h k) t.1) ∙ t.2))),
  )

  -- overlapping matches in range have a meet in range, which exactly the common packets fit
  pub meet_means : MatchInRange m → MatchInRange n → overlaps m n ≡ true
      → MatchInRange (meet m n) × ((p : Packet) → fits (meet m n) p ≡ fits m p && fits n p)
  meet_means h k e = (match_field.meet_ok m n h k, match_field.meet_fits m n e)

-- a match lies within itself
pub lies_within_itself : (m : Match) → within m m ≡ true
lies_within_itself m = within_self match_field m
