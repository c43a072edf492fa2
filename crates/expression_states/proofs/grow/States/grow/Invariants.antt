use Rattle.std.proofs.Common.{◌+◌, ◌-◌}
use Rattle.tables.specs.Limits.{most_pool}
use Rattle.expression_states.specs.Laws.Growing.{Finding}
use Rattle.expression_states.proofs.grow.States.grow.Given as goal

abbrev pub invariant-loop-at : goal.invariant-loop-at
invariant-loop-at l = Finding l.moves.first l.moves.follow.now l.moves.marks.now l.states.sets l.states.count l.at

abbrev pub decreases-loop-at : goal.decreases-loop-at
decreases-loop-at l = most_pool + 1 - l.at
