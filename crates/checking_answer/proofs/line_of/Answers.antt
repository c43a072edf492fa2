use Rattle.theory_files.specs.Checking.{table_least}
use Rattle.tables.specs.Limits.{contents_least}
use Rattle.checking_answer.specs.Laws.{lines, new_long}
use Rattle.checking_answer.proofs.line_of.Goals as goal

pub returns : goal.returns
returns c = lines (new_long table_least) (new_long table_least) (new_long contents_least) c.answer.ensures
