use Rattle.replay_texts.proofs.Leaving.{tables_short, answers_short, both_written}
use Rattle.replay_texts.proofs.both.write_both.Goals as goal

pub returns-then-out-tables_need : goal.returns-then-out-tables_need
returns-then-out-tables_need c = tables_short _ _ _ _ _ c.normal_length-tables_need.ensures c.if-out-tables_need.true

pub returns-then-answered-answers_need : goal.returns-then-answered-answers_need
returns-then-answered-answers_need c = answers_short _ _ _ _ _ c.normal_length-tables_need.ensures c.if-out-tables_need.false c.answers_length-answers_need.ensures c.if-answered-answers_need.true

pub returns : goal.returns
returns c =
    both_written _ _ _ _ _ c.normal_length-tables_need.ensures c.if-out-tables_need.false c.answers_length-answers_need.ensures c.if-answered-answers_need.false
    c.write_normal-a.ensures c.write_answers-b.ensures
