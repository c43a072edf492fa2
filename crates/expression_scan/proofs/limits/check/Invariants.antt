use Rattle.expression_scan.specs.Laws.Limits.{Checking}
use Rattle.expression_scan.proofs.limits.check.Given as goal

abbrev pub invariant-loop-place : goal.invariant-loop-place
invariant-loop-place l = Checking l.s l.before.inside l.before.opened l.before.closed l.before.numbers l.place
