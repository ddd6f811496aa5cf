-- The texts are refused, or orders of their events are tried from their rows.
use lib.ListN.{length}
use Rattle.refusals.proofs.Checks.{handed_back}
use Rattle.inputs.proofs.Both.{accepted_read}
use Rattle.trials_call.proofs.Leaving.{texts_refused, texts_accepted, held}
use Rattle.trials_call.proofs.trying.try_orders.Goals as goal

pub try_on-requires : goal.try_on-requires
try_on-requires c =
    let (value, few) = accepted_read _ _ _ _ c.read_both.ensures.trace c.read_both.ensures.rows c.in_ok-inputs.ensures in
    (few.0, few.1, held _ _ _ _ _ value)

pub returns-in_err-inputs : goal.returns-in_err-inputs
returns-in_err-inputs c =
    let (value, few) = accepted_read _ _ _ _ c.read_both.ensures.trace c.read_both.ensures.rows c.in_err-inputs.ensures in
    let left = texts_refused _ c.args.trace.now c.args.tables.now c.args.orders.now (length c.args.out.now) value in
    rw (handed_back c.from_residual.ensures.1)
    (record {
      value = left.answer;
      out_after = left.bytes;
    })

pub returns : goal.returns
returns c =
    let (value, few) = accepted_read _ _ _ _ c.read_both.ensures.trace c.read_both.ensures.rows c.in_ok-inputs.ensures in
    let left = texts_accepted _ c.args.trace.now c.args.tables.now c.args.orders.now (length c.args.out.now) _ _ value c.try_on.ensures in
    record {
      value = left.answer;
      out_after = left.bytes;
    }
