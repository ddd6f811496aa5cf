use Rattle.text_numbers.proofs.Writing.{put_then, put_one}
use Rattle.refusals_text.proofs.put_line.Goals as goal

pub returns : goal.returns
returns c = put_then c.put_bytes-n.ensures (put_one _ 10 _ _ c.put_byte.ensures)
