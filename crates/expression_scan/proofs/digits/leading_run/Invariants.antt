use Rattle.expression_scan.specs.Laws.Values.{Running}
use Rattle.expression_scan.proofs.digits.leading_run.Given as goal

abbrev pub invariant-loop-len : goal.invariant-loop-len
invariant-loop-len l = Running l.s l.value l.len
