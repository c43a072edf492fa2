use Rattle.expression_states.specs.Laws.Growing.{Marked}
use Rattle.expression_states.proofs.grow.States.add_next.Given as goal

abbrev pub invariant-loop-mark : goal.invariant-loop-mark
invariant-loop-mark l = Marked l.initial.self.sets l.initial.self.count l.next l.marks l.self.sets l.self.count l.mark-index
