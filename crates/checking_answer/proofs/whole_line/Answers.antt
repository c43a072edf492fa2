use native.Mathlib.Omega.{arith}
use Rattle.checking_answer.specs.Laws.{whole}
use Rattle.checking_answer.proofs.whole_line.Goals as goal

pub returns : goal.returns
returns c = whole (omega arith) (omega arith) c.line_of.ensures
