use mathlib.Core.Path.{◌≡◌}
use Rattle.replaying_queues.specs.Ring.{rings}
use Rattle.replaying_queues.specs.Laid.{memory_after}
use Rattle.replaying_queues.proofs.settle.settle_queues.Given as goal

abbrev pub invariant-loop-q : goal.invariant-loop-q
invariant-loop-q l = l.memory ≡ memory_after (rings l.initial.memory l.heads l.lengths l.q) l.initial.memory
