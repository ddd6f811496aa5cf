-- What a filter asks by priorities and bits is its test, where fields have the bits of their places. Assumes nothing.
use mathlib.Core.Path.{◌≡◌, refl, sym, ap, ◌∙◌, subst}
use mathlib.Core.Bool.{Bool, ◌&&◌}
use mathlib.Core.List.{List}
use Prim.Native.Nat.{ℕ, ◌≤◌, ◌<◌}
use native.Mathlib.Omega.{arith}
use lib.Dec.{eqb}
use lib.ListN.{length, take, get_or}
use lib.Seq.{get_or-take, length-take-le}
use Rattle.flow.specs.declared.exact.Exact.{Exact}
use Rattle.flow.specs.declared.prefix.Prefix.{Prefix}
use Rattle.flow.proofs.SameKey.{same_key_lem}
use Rattle.flow_bits.specs.Inner.{bits_of, exactly, Narrow}
use Rattle.flow_bits.proofs.ByWords.{overlaps_bits, within_bits, same_bits, fits_exactly}
use Rattle.rows.specs.Rows.{on_switch, passes}
use Rattle.slots_plan.specs.Types.{Match, Action, Key, Row, Filter, Bits, Question}
use Rattle.slots_plan.specs.InnerAsking.{question_of, asks, FilterNarrow, no_bits, BitsFor, Worded}

pub asks_passes : (f : Filter) (k : Key) → FilterNarrow f → Narrow k.pattern → asks (question_of f) k.priority (bits_of k.pattern) ≡ passes f k
asks_passes Filter.Nothing k h g = refl
asks_passes (Filter.Same j) k h g = ap (λ b. eqb k.priority j.priority && b) (same_bits j.pattern k.pattern h g) ∙ sym (same_key_lem j k)
asks_passes (Filter.Within m) k h g = within_bits k.pattern m g h
asks_passes (Filter.Clash j) k h g = ap (λ b. eqb j.priority k.priority && b) (overlaps_bits j.pattern k.pattern h g)
asks_passes (Filter.Fits p) k h g = overlaps_bits k.pattern (exactly p) g h ∙ sym (fits_exactly k.pattern p)

-- a slot asked by its bits
pub slot_asked : (w : ℕ) (f : Filter) (x : Row) {q : Question} {b : Bits} {a : Bool} → (q ≡ question_of f) × FilterNarrow f
    → BitsFor x b → a ≡ asks q x.entry.key.priority b → (eqb w x.switch && a) ≡ on_switch w (passes f) x
unfolding on_switch
slot_asked w f x {q} {b} {a} u v e = ap (λ c. eqb w x.switch && c) (e ∙ asked)
  where
    k : Key
    k = x.entry.key

    asked : asks q k.priority b ≡ passes f k
    asked = ap (λ r. asks r k.priority b) u.0 ∙ ap (asks (question_of f) k.priority) v.0 ∙ asks_passes f k u.1 v.1

-- what stands past the end of an array of rows
abbrev no_prefix : Prefix
no_prefix = record { value = 0; length = 0 }

abbrev no_match : Match
no_match = record { port = Exact.Any; vlan = Exact.Any; src = no_prefix; dst = no_prefix; proto = Exact.Any; sport = Exact.Any; dport = Exact.Any }

abbrev pub no_row : Row
no_row = record { switch = 0; entry = record { key = record { priority = 0; pattern = no_match }; action = Action.Drop } }

-- the bits of a slot
pub bits_here : (l : List Row) (n i : ℕ) (bits : List Bits) (d : Row) → Worded (take n l) bits → i < n → n ≤ length l → BitsFor (get_or l i d) (get_or bits i no_bits)
bits_here l n i bits d w h f = subst (λ x. BitsFor x (get_or bits i no_bits)) (get_or-take n l i d h) (w i d (omega (arith, length-take-le n l f)))
