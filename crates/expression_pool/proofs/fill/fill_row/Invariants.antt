use Rattle.expression_pool.specs.Laws.Entries.{RowFilled}
use Rattle.expression_pool.proofs.fill.fill_row.Given as goal

abbrev pub invariant-loop-m : goal.invariant-loop-m
invariant-loop-m l = RowFilled l.states l.next l.marks l.row l.initial.arcs l.arcs l.m
