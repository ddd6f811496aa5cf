-- The marked cases of document 01, in one theorem about commuting. What the document leaves open (priorities n and m, actions a and
-- b, the packet's other fields) is any. Assumes nothing.
use mathlib.Core.Path.{◌≡◌, refl, sym, ◌∙◌, ap}
use mathlib.Core.Bool.{true, false, and-false, true≢false}
use lib.Dec.{lit<, lit≤}
use Rattle.flow.specs.Matches.{prefix_fits, fits, overlaps, within, MatchInRange}
use Rattle.flow.specs.Entries.{rank, match_order, key_order, same_key, same_action}
use Rattle.flow.proofs.PrefixField.{prefix_clear_means, prefix_fits_leading}
use Rattle.flow.proofs.Leading.{overlaps_by_bits_lem, within_by_bits_lem, other_destination}
use Rattle.commuting.specs.Types.{Packet, Effect}
use Rattle.commuting.specs.Commuting.{Commute, commutes}
use Rattle.commuting.specs.Marked.{A, B, D, MarkedCases}
use Rattle.commuting.proofs.Theorems.{commutes_iff}

-- the three matches are in range
A-in-range : MatchInRange A
A-in-range = record {
  port = tt;
  vlan = tt;
  src = record { value = lit< tt; length = lit≤ tt; clear = (prefix_clear_means A.src (lit< tt)).1 refl };
  dst = record { value = lit< tt; length = lit≤ tt; clear = (prefix_clear_means A.dst (lit< tt)).1 refl };
  proto = tt;
  sport = tt;
  dport = tt;
}

B-in-range : MatchInRange B
B-in-range = record {
  port = tt;
  vlan = tt;
  src = A-in-range.src;
  dst = record { value = lit< tt; length = lit≤ tt; clear = (prefix_clear_means B.dst (lit< tt)).1 refl };
  proto = tt;
  sport = tt;
  dport = tt;
}

D-in-range : MatchInRange D
D-in-range = record { port = tt; vlan = tt; src = A-in-range.src; dst = A-in-range.src; proto = tt; sport = tt; dport = lit< tt }

-- how they lie to one another
A-over-A : overlaps A A ≡ true
A-over-A = overlaps_by_bits_lem A A A-in-range A-in-range

B-over-A : overlaps B A ≡ true
B-over-A = overlaps_by_bits_lem B A B-in-range A-in-range

A-over-B : overlaps A B ≡ true
A-over-B = overlaps_by_bits_lem A B A-in-range B-in-range

A-over-D : overlaps A D ≡ true
A-over-D = overlaps_by_bits_lem A D A-in-range D-in-range

D-over-A : overlaps D A ≡ true
D-over-A = overlaps_by_bits_lem D A D-in-range A-in-range

A-in-D : within A D ≡ false
A-in-D = within_by_bits_lem A D A-in-range D-in-range

D-in-A : within D A ≡ false
D-in-A = within_by_bits_lem D A D-in-range A-in-range

A-in-B : within A B ≡ false
A-in-B = within_by_bits_lem A B A-in-range B-in-range

B-in-A : within B A ≡ true
B-in-A = within_by_bits_lem B A B-in-range A-in-range

to_0b : (p : Packet) → p.dst ≡ 0x0b000000 → fits A p ≡ false
to_0b p e = other_destination A p (ap (λ x. prefix_fits A.dst x) e ∙ prefix_fits_leading A.dst 0x0b000000 (lit< tt) (lit< tt))

-- by the test
yes : (v w : Effect) → commutes v w ≡ true → Commute v w
yes v w e = (commutes_iff v w).0 e

no : (v w : Effect) → commutes v w ≡ false → Commute v w → ⊥
no v w e f = true≢false (sym ((commutes_iff v w).1 f) ∙ e)

pub marked : MarkedCases
unfolding commutes same_key key_order match_order rank same_action
marked = record {
  add_A_5_p1_twice = yes _ _ refl;
  add_A_5_with_addc_B_6 = λ a b. yes _ _ refl;
  modn_A_5_p1_with_modn_D_5_p1 = yes _ _ (rw (A-over-D, A-in-D, D-in-A) refl);
  deln_A_with_dels_B_5 = yes _ _ refl;
  deln_A_with_add_D_5 = λ a. yes _ _ (rw D-in-A refl);
  pkt_to_0b000000_with_add_A = λ p e n a. yes _ _ (rw (to_0b p e) refl);
  add_A_5_p1_with_add_A_5_p2 = no _ _ refl;
  add_A_5_with_addc_B_5 = λ a b. no _ _ (rw B-over-A refl);
  modn_A_5_p1_with_modn_B_5_p1 = no _ _ (rw (A-over-B, A-in-B, B-in-A) refl);
  modn_A_p1_with_modn_D_p2 = λ n m. no _ _ (rw (A-over-D, and-false) refl);
  deln_A_with_addc_D_5 = λ a. no _ _ (rw D-over-A refl);
  modn_A_with_dels_B_5 = λ n a. no _ _ (rw B-in-A refl);
  addc_A_5_twice = λ a b. no _ _ (rw A-over-A refl);
}
