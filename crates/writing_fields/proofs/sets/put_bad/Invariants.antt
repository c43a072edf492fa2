use Rattle.writing_fields.specs.Parts.{bad_entry}
use Rattle.writing_fields.specs.Laws.Writers.{Rounds}
use Rattle.writing_fields.proofs.sets.put_bad.Given as goal

abbrev pub invariant-loop-b : goal.invariant-loop-b
invariant-loop-b l = Rounds (bad_entry l.rows) 4 0 l.count l.count l.initial.w l.b l.w
