use native.Mathlib.Omega.{arith}
use native.Mathlib.Numerals.{add-one}
use lib.ListN.{length-set}
use Rattle.list_pairs.proofs.PairLaws.{put_arm}
use Rattle.list_pairs.proofs.pass.put_listed.Goals as goal

pub bounds-list-at-in-Listed : goal.bounds-list-at-in-Listed
bounds-list-at-in-Listed c = simp length-set (omega arith)

pub returns-in-Listed : goal.returns-in-Listed
returns-in-Listed c = put_arm _ _ _ c.in-Listed.is (simp add-one)
