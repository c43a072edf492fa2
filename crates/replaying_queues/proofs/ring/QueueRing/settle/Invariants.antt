use Rattle.numbers.specs.Laws.Put.{Left}
use Rattle.replaying_queues.specs.Ring.{waiting}
use Rattle.replaying_queues.specs.Laws.Words.{waiting_from}
use Rattle.replaying_queues.proofs.ring.QueueRing.settle.Given as goal

abbrev pub invariant-loop-i : goal.invariant-loop-i
invariant-loop-i l = Left l.initial.ring 0 (waiting l.memory l.self.base l.self.head l.self.count) l.ring l.i (waiting_from l.memory l.self.base l.self.head l.self.count l.i)
