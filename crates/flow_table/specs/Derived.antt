-- The derived equality of answers, under a name.
use Rattle.std.specs.Prelude.{Bool}
use Rattle.flow_table.specs.Types.{Answer}
use Rattle.flow_table.specs.contracts.operation.AnswerPartialEq.TheImpl as answer

abbrev pub answer_equal : Answer → Answer → Bool
answer_equal = (answer.ghosts).eq
