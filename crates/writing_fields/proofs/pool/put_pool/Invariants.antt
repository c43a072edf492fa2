use Rattle.theory_format.specs.Spelled.{state}
use Rattle.writing_fields.specs.Laws.Writers.{Rounds}
use Rattle.writing_fields.proofs.pool.put_pool.Given as goal

abbrev pub invariant-loop-i : goal.invariant-loop-i
invariant-loop-i l = Rounds (state l.t.finals.now l.t.arcs.now l.sum) 1024 0 l.count l.count l.initial.w l.i l.w
