use native.Mathlib.Omega.{arith}
use Rattle.list_pairs.proofs.PairLaws.{counted_arm}
use Rattle.list_pairs.proofs.counts.counted.Goals as goal

pub returns-in-Unpaired : goal.returns-in-Unpaired
returns-in-Unpaired c = counted_arm _ _ c.in-Unpaired.is (omega arith) (omega arith) (omega arith) (omega arith)

pub returns-in-Ordered : goal.returns-in-Ordered
returns-in-Ordered c = counted_arm _ _ c.in-Ordered.is (omega arith) (omega arith) (omega arith) (omega arith)

pub returns-in-Commuting : goal.returns-in-Commuting
returns-in-Commuting c = counted_arm _ _ c.in-Commuting.is (omega arith) (omega arith) (omega arith) (omega arith)

pub returns-in-Listed : goal.returns-in-Listed
returns-in-Listed c = counted_arm _ _ c.in-Listed.is (omega arith) (omega arith) (omega arith) (omega arith)
