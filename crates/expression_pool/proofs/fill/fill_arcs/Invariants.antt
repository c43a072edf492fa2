use Rattle.expression_pool.specs.Laws.Entries.{ArcsFilled}
use Rattle.expression_pool.proofs.fill.fill_arcs.Given as goal

abbrev pub invariant-loop-i : goal.invariant-loop-i
invariant-loop-i l = ArcsFilled l.states l.moves.first l.moves.follow.now l.moves.marks.now l.initial.arcs l.arcs l.i
