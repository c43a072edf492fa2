use Rattle.writing_fields.specs.Laws.Writers.{ArcsLeft}
use Rattle.writing_fields.proofs.pool.put_arcs.Given as goal

abbrev pub invariant-loop-m : goal.invariant-loop-m
invariant-loop-m l = ArcsLeft l.row l.initial.w l.m l.w
