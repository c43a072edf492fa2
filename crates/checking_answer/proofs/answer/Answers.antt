use Rattle.checking_answer.specs.Laws.{answered_by}
use Rattle.checking_answer.proofs.answer.Goals as goal

pub returns : goal.returns
returns c = answered_by c.check-checked.result c.check-checked.ensures.checks c.write_line.ensures
