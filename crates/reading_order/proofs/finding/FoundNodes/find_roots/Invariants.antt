use Prim.Native.Nat.{◌-◌}
use Rattle.reading_order.specs.Nodes.{root_nodes}
use Rattle.reading_order.specs.Laws.Finding.{Finding}
use Rattle.reading_order.proofs.finding.FoundNodes.find_roots.Given as goal

abbrev pub invariant-loop-c : goal.invariant-loop-c
invariant-loop-c l =
    Finding l.initial.self.list l.initial.self.count (root_nodes l.roots l.controls 0) l.self.seen l.self.list l.self.count (root_nodes l.roots (l.controls - l.c) l.c)
