use native.Mathlib.Omega.{arith}
use Rattle.text_numbers.proofs.Writing.{put_from}
use Rattle.replay_answers.proofs.AnswerLaws.{answer_length}
use Rattle.replay_answers.proofs.answers.append_answer.Goals as goal

pub overflow_add-result : goal.overflow_add-result
overflow_add-result c = omega (arith, c.put_answer-used.ensures.after, answer_length c.args.ev c.args.answer)

pub returns : goal.returns
returns c = put_from (omega arith) c.put_answer-used.ensures
