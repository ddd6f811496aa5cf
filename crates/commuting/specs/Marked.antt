-- Document 01, "Program and worked lines": the marked cases of commuting.
use Rattle.std.specs.Prelude.{◌≡◌, ℕ}
use Rattle.commuting.specs.Types.{Match, Packet, Action, Exact, Effect}
use Rattle.commuting.specs.Commuting.{Commute, at}

-- A: dst 0a000000/8; B: dst 0a010000/16; D: dport 80; else any
abbrev pub A : Match
A = record { port = Exact.Any; vlan = Exact.Any; src = record { value = 0; length = 0 }; dst = record { value = 0x0a000000; length = 8 }; proto = Exact.Any; sport = Exact.Any; dport = Exact.Any }

abbrev pub B : Match
B = record { port = Exact.Any; vlan = Exact.Any; src = record { value = 0; length = 0 }; dst = record { value = 0x0a010000; length = 16 }; proto = Exact.Any; sport = Exact.Any; dport = Exact.Any }

abbrev pub D : Match
D = record { port = Exact.Any; vlan = Exact.Any; src = record { value = 0; length = 0 }; dst = record { value = 0; length = 0 }; proto = Exact.Any; sport = Exact.Any; dport = Exact.Is 80 }

-- the marked cases, in document 01's order; what it leaves open, priorities n and m, actions a and b and the packet's other fields, is
-- any
pub record MarkedCases : Type 0 where
  -- commute
  pub add_A_5_p1_twice : Commute (Effect.Add (at 5 A) (Action.Port 1)) (Effect.Add (at 5 A) (Action.Port 1))
  pub add_A_5_with_addc_B_6 : (a b : Action) → Commute (Effect.Add (at 5 A) a) (Effect.Addc (at 6 B) b)
  pub modn_A_5_p1_with_modn_D_5_p1 : Commute (Effect.Modn (at 5 A) (Action.Port 1)) (Effect.Modn (at 5 D) (Action.Port 1))
  pub deln_A_with_dels_B_5 : Commute (Effect.Deln A) (Effect.Dels (at 5 B))
  pub deln_A_with_add_D_5 : (a : Action) → Commute (Effect.Deln A) (Effect.Add (at 5 D) a)
  pub pkt_to_0b000000_with_add_A : (p : Packet) → p.dst ≡ 0x0b000000 → (n : ℕ) (a : Action) → Commute (Effect.Pkt p) (Effect.Add (at n A) a)
  -- don't
  pub add_A_5_p1_with_add_A_5_p2 : Commute (Effect.Add (at 5 A) (Action.Port 1)) (Effect.Add (at 5 A) (Action.Port 2)) → ⊥
  pub add_A_5_with_addc_B_5 : (a b : Action) → Commute (Effect.Add (at 5 A) a) (Effect.Addc (at 5 B) b) → ⊥
  pub modn_A_5_p1_with_modn_B_5_p1 : Commute (Effect.Modn (at 5 A) (Action.Port 1)) (Effect.Modn (at 5 B) (Action.Port 1)) → ⊥
  pub modn_A_p1_with_modn_D_p2 : (n m : ℕ) → Commute (Effect.Modn (at n A) (Action.Port 1)) (Effect.Modn (at m D) (Action.Port 2)) → ⊥
  pub deln_A_with_addc_D_5 : (a : Action) → Commute (Effect.Deln A) (Effect.Addc (at 5 D) a) → ⊥
  pub modn_A_with_dels_B_5 : (n : ℕ) (a : Action) → Commute (Effect.Modn (at n A) a) (Effect.Dels (at 5 B)) → ⊥
  pub addc_A_5_twice : (a b : Action) → Commute (Effect.Addc (at 5 A) a) (Effect.Addc (at 5 A) b) → ⊥
