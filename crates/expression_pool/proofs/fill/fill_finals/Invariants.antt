use Rattle.expression_pool.specs.Laws.Entries.{FinalsFilled}
use Rattle.expression_pool.proofs.fill.fill_finals.Given as goal

abbrev pub invariant-loop-i : goal.invariant-loop-i
invariant-loop-i l = FinalsFilled l.skips l.last l.states l.initial.finals l.finals l.i
