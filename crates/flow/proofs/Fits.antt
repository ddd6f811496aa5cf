-- A packet in range fits a match in range exactly if it does in all seven fields: `*` or the same number, the same leading bits.
-- Assumes nothing.
use mathlib.Core.Path.{◌≡◌, refl, sym, ◌∙◌}
use mathlib.Core.Logic.{◌↔◌}
use mathlib.Core.Bool.{true}
use Prim.Native.Nat.{ℕ, ◌/◌, ◌-◌, ◌^◌, ◌<◌}
use borrow.Author.Tests.{eqb-true, eq-eqb}
use Rattle.flow.specs.Types.{Exact, Prefix, Match, Packet}
use Rattle.flow.specs.Matches.{exact_fits, prefix_fits, fits, MatchInRange, PacketInRange, Admits, HasPrefix, FitsAll}
use Rattle.basics.proofs.Booleans.{and_left, and_right, and_intro}
use Rattle.flow.proofs.PrefixField.{prefix_fits_leading}

admits_of : (a : Exact) (x : ℕ) → exact_fits a x ≡ true → Admits a x
admits_of Exact.Any x e = Admits.any
admits_of (Exact.Is n) x e = rw (eqb-true n x e) Admits.itself

is_admitted : {a : Exact} {x : ℕ} → Admits a x → exact_fits a x ≡ true
is_admitted Admits.any = refl
is_admitted (Admits.itself {x = x}) = eq-eqb x x refl

exact_fits_iff : (a : Exact) (x : ℕ) → (exact_fits a x ≡ true) ↔ Admits a x
exact_fits_iff a x = (admits_of a x, is_admitted)

prefix_fits_iff : (p : Prefix) (x : ℕ) → p.value < 2 ^ 32 → x < 2 ^ 32 → (prefix_fits p x ≡ true) ↔ HasPrefix p x
prefix_fits_iff p x h k =
    let s = 2 ^ (32 - p.length) in
    let q = prefix_fits_leading p x h k in
    (λ e. eqb-true (x / s) (p.value / s) (sym q ∙ e), λ e. q ∙ eq-eqb (x / s) (p.value / s) e)

module _ (m : Match) (p : Packet) (h : MatchInRange m) (k : PacketInRange p) where
  port : (exact_fits m.port p.port ≡ true) ↔ Admits m.port p.port
  port = exact_fits_iff m.port p.port

  vlan : (exact_fits m.vlan p.vlan ≡ true) ↔ Admits m.vlan p.vlan
  vlan = exact_fits_iff m.vlan p.vlan

  src : (prefix_fits m.src p.src ≡ true) ↔ HasPrefix m.src p.src
  src = prefix_fits_iff m.src p.src h.src.value k.src

  dst : (prefix_fits m.dst p.dst ≡ true) ↔ HasPrefix m.dst p.dst
  dst = prefix_fits_iff m.dst p.dst h.dst.value k.dst

  proto : (exact_fits m.proto p.proto ≡ true) ↔ Admits m.proto p.proto
  proto = exact_fits_iff m.proto p.proto

  sport : (exact_fits m.sport p.sport ≡ true) ↔ Admits m.sport p.sport
  sport = exact_fits_iff m.sport p.sport

  dport : (exact_fits m.dport p.dport ≡ true) ↔ Admits m.dport p.dport
  dport = exact_fits_iff m.dport p.dport

  pub fits_iff : (fits m p ≡ true) ↔ FitsAll m p
  unfolding fits
  fits_iff = (
    λ e₀.
        let e₁ = and_right (exact_fits m.port p.port) _ e₀ in
        let e₂ = and_right (exact_fits m.vlan p.vlan) _ e₁ in
        let e₃ = and_right (prefix_fits m.src p.src) _ e₂ in
        let e₄ = and_right (prefix_fits m.dst p.dst) _ e₃ in
        let e₅ = and_right (exact_fits m.proto p.proto) _ e₄ in
        record {
          port = port.0 (and_left (exact_fits m.port p.port) _ e₀);
          vlan = vlan.0 (and_left (exact_fits m.vlan p.vlan) _ e₁);
          src = src.0 (and_left (prefix_fits m.src p.src) _ e₂);
          dst = dst.0 (and_left (prefix_fits m.dst p.dst) _ e₃);
          proto = proto.0 (and_left (exact_fits m.proto p.proto) _ e₄);
          sport = sport.0 (and_left (exact_fits m.sport p.sport) _ e₅);
          dport = dport.0 (and_right (exact_fits m.sport p.sport) _ e₅);
        },
    λ f. and_intro (port.1 f.port) (and_intro (vlan.1 f.vlan) (and_intro (src.1 f.src) (and_intro (dst.1 f.dst) (and_intro (proto.1 f.proto) (and_intro (sport.1 f.sport) (dport.1 f.dport)))))),
  )
