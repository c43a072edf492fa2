use Prim.Native.Nat.{◌+◌}
use lib.ListN.{drop}
use Rattle.replaying_queues.specs.Laws.Words.{Putting}
use Rattle.replaying_queues.proofs.ring.QueueRing.put.Given as goal

abbrev pub invariant-loop-i : goal.invariant-loop-i
invariant-loop-i l = Putting l.initial.memory l.base l.from l.word l.memory (l.from + l.i) (drop l.i l.word)
