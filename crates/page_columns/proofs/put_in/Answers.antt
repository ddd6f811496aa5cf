use native.Mathlib.Nat.{add-zero}
use native.Mathlib.Omega.{arith}
use Rattle.text_numbers.proofs.Writing.{put_none}
use Rattle.page_columns.proofs.Digits.{more_put, all_put}
use Rattle.page_columns.proofs.put_in.Goals as goal

pub loop-i-init : goal.loop-i-init
loop-i-init g c = rw add-zero (put_none _ _)

pub loop-i-preserved : goal.loop-i-preserved
loop-i-preserved g c = more_put _ _ _ c.loop-i-test.true c.loop-i.invariant c.digit_or_blank.ensures c.put_byte.ensures

pub returns-clause-put : goal.returns-clause-put
returns-clause-put g c = all_put _ _ _ c.requires.1 c.requires.2 c.requires.3 (omega arith) c.loop-i.invariant c.put_byte-2.ensures
