use Prim.Native.Nat.{◌-◌}
use Rattle.theory_exploration.specs.Growing.{gather}
use Rattle.reading_order.specs.Found.{arc_node}
use Rattle.reading_order.specs.Laws.Finding.{Finding}
use Rattle.reading_order.proofs.finding.FoundNodes.find_arcs.Given as goal

abbrev pub invariant-loop-m : goal.invariant-loop-m
invariant-loop-m l =
    let f = arc_node l.arcs l.row l.rank in
    Finding l.initial.self.list l.initial.self.count (gather f (l.end - l.first) l.first) l.self.seen l.self.list l.self.count (gather f (l.end - l.m) l.m)
