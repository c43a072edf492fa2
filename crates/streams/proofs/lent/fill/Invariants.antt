use lib.ListN.{length}
use Rattle.streams.specs.Laws.Lent.{Filling}
use Rattle.streams.proofs.lent.fill.Given as goal

abbrev pub invariant-loop-byte : goal.invariant-loop-byte
invariant-loop-byte l = Filling l.m (length l.initial.memory) l.memory l.next l.byte-index
