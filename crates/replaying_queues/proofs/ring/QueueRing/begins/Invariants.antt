use lib.ListN.{drop}
use Rattle.replaying_queues.specs.Ring.{waiting}
use Rattle.replaying_queues.specs.Laws.Words.{waiting_from, Asked}
use Rattle.replaying_queues.proofs.ring.QueueRing.begins.Given as goal

abbrev pub invariant-loop-i : goal.invariant-loop-i
invariant-loop-i l =
    let r = l.self in
    Asked l.same l.word (waiting l.memory r.base r.head r.count) (drop l.i l.word) (waiting_from l.memory r.base r.head r.count l.i)
