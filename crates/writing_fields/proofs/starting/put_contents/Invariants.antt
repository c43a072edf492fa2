use Rattle.theory_format.specs.Spelled.{content}
use Rattle.writing_fields.specs.Laws.Writers.{Rounds}
use Rattle.writing_fields.proofs.starting.put_contents.Given as goal

abbrev pub invariant-loop-i : goal.invariant-loop-i
invariant-loop-i l = Rounds (content l.lengths l.table) 512 0 l.count l.count l.initial.w l.i l.w
