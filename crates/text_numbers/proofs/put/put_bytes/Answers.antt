use Rattle.text_numbers.proofs.Writing.{put_cut, put_past}
use Rattle.text_numbers.proofs.put.put_bytes.Goals as goal
use Rattle.text_numbers.proofs.put.put_bytes.Goals.{then-at-out, else-at-out}

pub returns : goal.returns
returns c =
    elim c.if-at-out.branch [
      | then-at-out w ↦ rw w.out-is (put_cut _ _ _ _ w.if-at-out.true w.min-n.ensures w.copy_from_slice.ensures.after)
      | else-at-out w ↦ rw w.out-is (put_past _ _ _ w.if-at-out.false)
    ]
