-- The texts are refused, or their events and rows, which are in order, are replayed.
use Rattle.refusals.proofs.Checks.{handed_back}
use Rattle.inputs.proofs.Both.{accepted_read}
use Rattle.replay_call.proofs.Leaving.{texts_refused, texts_accepted, start_sorted}
use Rattle.replay_call.proofs.replaying.replay.Goals as goal

pub replay_order-requires : goal.replay_order-requires
replay_order-requires c =
    let (value, few) = accepted_read _ _ _ _ c.read_both.ensures.trace c.read_both.ensures.rows c.in_ok-inputs.ensures in
    (few.0, few.1, start_sorted _ _ _ _ _ value)

pub returns-in_err-inputs : goal.returns-in_err-inputs
returns-in_err-inputs c =
    let (value, few) = accepted_read _ _ _ _ c.read_both.ensures.trace c.read_both.ensures.rows c.in_err-inputs.ensures in
    let left = texts_refused _ c.args.trace.now c.args.tables.now c.args.order.now _ _ value in
    rw (handed_back c.from_residual.ensures.1)
    (record {
      value = left.answer;
      tables_out_after = left.tables;
      answers_out_after = left.answers;
    })

pub returns : goal.returns
returns c =
    let (value, few) = accepted_read _ _ _ _ c.read_both.ensures.trace c.read_both.ensures.rows c.in_ok-inputs.ensures in
    let left = texts_accepted _ c.args.trace.now c.args.tables.now c.args.order.now _ _ _ _ value c.replay_order.ensures in
    record {
      value = left.answer;
      tables_out_after = left.tables;
      answers_out_after = left.answers;
    }
