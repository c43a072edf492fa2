use Rattle.expression_sets.specs.Laws.Gathering.{Marking}
use Rattle.expression_sets.proofs.sets.Occurring.marks.Given as goal

abbrev pub invariant-loop-i : goal.invariant-loop-i
invariant-loop-i l = Marking l.self.label l.marks l.i
