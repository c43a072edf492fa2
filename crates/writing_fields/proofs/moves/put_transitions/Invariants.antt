use Rattle.writing_fields.specs.Parts.{transition_of}
use Rattle.writing_fields.specs.Laws.Writers.{Rounds}
use Rattle.writing_fields.proofs.moves.put_transitions.Given as goal

abbrev pub invariant-loop-t : goal.invariant-loop-t
invariant-loop-t l = Rounds (transition_of l.rows) 522 0 l.count l.count l.initial.w l.t l.w
