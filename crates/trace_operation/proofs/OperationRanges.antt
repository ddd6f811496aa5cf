-- An operation that is written, and has no address bit past its prefix, is in range.
use Prim.Native.Nat.{◌<◌}
use mathlib.Core.Bool.{true}
use mathlib.Core.Path.{◌≡◌}
use native.Mathlib.Omega.{arith}
use Rattle.flow_table.specs.Carried.{carried_of, CarriedInRange}
use Rattle.flow_table.specs.FlowTable.{effect_of, EffectInRange}
use Rattle.flow_table.specs.Switches.{switch_of}
use Rattle.flow_table.proofs.CarriedLaws.{effect_range}
use Rattle.text_fields.proofs.Ranges.{match_range, key_range, entry_range}
use Rattle.trace_operation.specs.Types.{Carried, Operation}
use Rattle.trace_operation.specs.Operations.{CarriedWritten, OperationWritten, clear_carried, clear_operation}

carried_range : (x : Carried) → CarriedWritten x → clear_carried x ≡ true → CarriedInRange x
carried_range (Carried.Packet p) w c = w
carried_range (Carried.Entry e) w c = let r = (entry_range e).0 (w, c) in (r.key, r.action)
carried_range (Carried.Key k) w c = (key_range k).0 (w, c)
carried_range (Carried.Match m) w c = (match_range m).0 (w, c)

pub operation_range : (o : Operation) → OperationWritten o → clear_operation o ≡ true → EffectInRange (effect_of o) × (switch_of o < 16)
operation_range Operation.Other w c = (tt, omega arith)
operation_range (Operation.Barrier s) w c = (tt, omega arith)
operation_range (Operation.Message s) w c = (tt, omega arith)
operation_range (Operation.Table s o) w c = (effect_range o (carried_range (carried_of o) w.1 c), omega (arith, w.0))
