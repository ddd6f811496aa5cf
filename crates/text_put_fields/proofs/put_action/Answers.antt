use Rattle.text_numbers.proofs.Writing.{put_then}
use Rattle.text_fields.specs.Print.{print_action}
use Rattle.text_put_fields.proofs.put_action.Goals as goal

pub returns-in-Drop : goal.returns-in-Drop
unfolding print_action
returns-in-Drop c = rw c.in-Drop.is c.put_bytes.ensures

pub returns-in-Controller : goal.returns-in-Controller
unfolding print_action
returns-in-Controller c = rw c.in-Controller.is c.put_bytes-in-Controller.ensures

pub returns-in-Port : goal.returns-in-Port
unfolding print_action
returns-in-Port c = rw c.in-Port.is (put_then c.put_bytes-n.ensures c.put_number.ensures)
