use Rattle.tables.specs.Starting.{each, starting_at}
use Rattle.theory_model.specs.Diagram.{word}
use Rattle.following.specs.Laws.Follow.{Following}
use Rattle.following.specs.Laws.Starting.{starting_from}
use Rattle.following.proofs.starting.follow_starting.Given as goal

abbrev pub invariant-loop-i : goal.invariant-loop-i
invariant-loop-i l =
    Following l.arcs l.initial.at.0 (word (each (starting_at l.lengths l.contents) l.i-end 0)) l.at.0 (starting_from l.lengths l.contents l.i-end l.i)
