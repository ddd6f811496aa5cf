use Rattle.text_numbers.proofs.Writing.{put_then}
use Rattle.text_fields.specs.Print.{print_last}
use Rattle.text_put_fields.proofs.put_last.Goals as goal

pub returns : goal.returns
unfolding print_last
returns c = put_then c.put_exact-a.ensures.put (put_then c.put_exact-b.ensures.put c.put_exact.ensures.put)
