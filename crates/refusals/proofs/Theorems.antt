-- Where the refused line stands: so many bytes of its text, from its start on, are the line (`refused_part`). 41 is no refusal's number
-- (`no_41`).
use mathlib.Core.List.{List}
use mathlib.Core.Path.{◌≡◌}
use Prim.Native.Nat.{ℕ}
use native.Mathlib.Omega.{arith}
use lib.ListN.{take, drop}
use Rattle.text_lines.proofs.Laws.{line_part}
use Rattle.refusals.specs.Types.{Refusal}
use Rattle.refusals.specs.Refusals.{number_of, place_of, source_of, text_in, line_of}
use Rattle.refusals.specs.Refused.{start_of, refused_as}

pub refused_part : (trace tables : List ℕ) (r : Refusal)
    → take (refused_as trace tables r).length (drop (refused_as trace tables r).start (text_in (source_of r) trace tables)) ≡ line_of trace tables r
unfolding refused_as start_of line_of
refused_part trace tables r = line_part (text_in (source_of r) trace tables) (place_of r)

pub no_41 : (r : Refusal) → number_of r ≡ 41 → ⊥
no_41 Refusal.TraceTooLong e = omega arith
no_41 Refusal.TraceUnended e = omega arith
no_41 Refusal.TraceTooManyLines e = omega arith
no_41 (Refusal.TraceMalformed line) e = omega arith
no_41 (Refusal.EventMisnumbered line) e = omega arith
no_41 (Refusal.TraceAddressBit line) e = omega arith
no_41 (Refusal.TokenTwice later) e = omega arith
no_41 (Refusal.TokenTooEarly line) e = omega arith
no_41 Refusal.TablesTooLong e = omega arith
no_41 Refusal.TablesUnended e = omega arith
no_41 Refusal.TablesTooManyLines e = omega arith
no_41 (Refusal.TablesMalformed line) e = omega arith
no_41 (Refusal.TablesAddressBit line) e = omega arith
no_41 (Refusal.KeyTwice later) e = omega arith
no_41 Refusal.OrderIncomplete e = omega arith
no_41 (Refusal.EventTooEarly position) e = omega arith
no_41 (Refusal.ListShort needed) e = omega arith
no_41 (Refusal.TablesShort needed) e = omega arith
no_41 (Refusal.AnswersShort needed) e = omega arith
no_41 (Refusal.PageShort needed) e = omega arith
no_41 Refusal.OrdersUneven e = omega arith
no_41 (Refusal.TrialsShort needed) e = omega arith
no_41 (Refusal.RangeReversed line) e = omega arith
no_41 (Refusal.TimeBackward earlier) e = omega arith
