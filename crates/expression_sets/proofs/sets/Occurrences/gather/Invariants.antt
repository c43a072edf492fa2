use Rattle.expression_sets.specs.Laws.Gathering.{Gathering}
use Rattle.expression_sets.proofs.sets.Occurrences.gather.Given as goal

abbrev pub invariant-loop-behind : goal.invariant-loop-behind
invariant-loop-behind l = Gathering l.fn.self l.follow l.sum l.rest l.behind-index
