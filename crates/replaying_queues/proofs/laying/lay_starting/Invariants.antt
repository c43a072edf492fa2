use Rattle.replaying_queues.specs.Laying.{Lays}
use Rattle.replaying_queues.proofs.laying.lay_starting.Given as goal

abbrev pub invariant-loop-q : goal.invariant-loop-q
invariant-loop-q l = Lays l.lengths l.contents l.q l.initial.memory l.memory
