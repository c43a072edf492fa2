use lib.ListN.{length}
use Rattle.theory_model.specs.Diagram.{word}
use Rattle.following.specs.Rows.{state_at, StateRow}
use Rattle.following.specs.Laws.Follow.{Following}
use Rattle.following.specs.Laws.Far.{Counting}
use Rattle.replaying_queues.specs.Ring.{rings}
use Rattle.replaying_queues.specs.Laws.Rings.{messages_from}
use Rattle.replaying_queues.proofs.follow.follow_rings.Given as goal

abbrev pub invariant-loop-q : goal.invariant-loop-q
invariant-loop-q l =
    Following l.arcs (state_at l.initial.row) (word (rings l.memory l.heads l.lengths l.count)) (state_at l.row) (messages_from l.memory l.heads l.lengths l.count l.q)
    × (Counting l.arcs (state_at l.initial.row) (word (rings l.memory l.heads l.lengths l.count)) (length (word (rings l.memory l.heads l.lengths l.q))) (state_at l.row) (messages_from l.memory l.heads l.lengths l.count l.q)
    × StateRow l.row)
