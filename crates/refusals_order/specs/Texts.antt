-- Document 01, "Refusal table", 1, 2, 3 and 11, 12, 13: the limits of a text; and 6, 15: what an address bit past the prefix is.
use Rattle.std.specs.Prelude.{List, [], ◌∷◌, ◌⊎◌, ◌≡◌, ℕ, ◌-◌, ◌^◌, ◌%◌, ◌<◌, length, get_or}
use Rattle.text_lines.specs.Lines.{lines}
use Rattle.flow_table.specs.Carried.{carried_of}
use Rattle.refusals_order.specs.Types.{Refusal, Prefix, Match, Carried, Operation}
use Rattle.refusals_order.specs.Causes.{Cause, When}

-- ---- the limits
-- there is a last byte, and it is not LF
abbrev pub LastNotLf : List ℕ → Type 0
LastNotLf s = (0 < length s) × (get_or s (length s - 1) 0 ≡ 10 → ⊥)

-- over 65,535 bytes / last byte not LF / over 256 lines
abbrev pub limit_causes : List ℕ → Refusal → Refusal → Refusal → List Cause
limit_causes s long unended many =
    When (65535 < length s) long
    ∷ When (LastNotLf s) unended
    ∷ When (256 < length (lines s)) many
    ∷ []

-- ---- address bits
-- an address bit stands past the prefix: among the last 32 less its length not all bits are zero
abbrev pub BitPast : Prefix → Type 0
BitPast p = p.value % 2 ^ (32 - p.length) ≡ 0 → ⊥

abbrev pub BitInMatch : Match → Type 0
BitInMatch m = BitPast m.src ⊎ BitPast m.dst

-- in the match that an operation carries; a packet has addresses and no prefix
abbrev pub BitInCarried : Carried → Type 0
BitInCarried (Carried.Packet p) = ⊥
BitInCarried (Carried.Entry e) = BitInMatch e.key.pattern
BitInCarried (Carried.Key k) = BitInMatch k.pattern
BitInCarried (Carried.Match m) = BitInMatch m

abbrev pub BitInOperation : Operation → Type 0
BitInOperation Operation.Other = ⊥
BitInOperation (Operation.Barrier w) = ⊥
BitInOperation (Operation.Message w) = ⊥
BitInOperation (Operation.Table w o) = BitInCarried (carried_of o)
