use Rattle.text_numbers.proofs.Writing.{put_then}
use Rattle.text_fields.specs.Print.{print_fields, print_match}
use Rattle.text_put_fields.proofs.put_match.Goals as goal

pub returns : goal.returns
unfolding print_match print_fields
returns c =
    put_then c.put_exact-a.ensures.put
    (put_then c.put_exact-b.ensures.put
    (put_then c.put_prefix-c.ensures.put
    (put_then c.put_prefix-d.ensures.put
    c.put_last.ensures)))
