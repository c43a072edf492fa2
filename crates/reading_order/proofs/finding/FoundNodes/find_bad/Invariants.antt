use Prim.Native.Nat.{◌-◌}
use Rattle.reading_order.specs.Nodes.{bad_nodes}
use Rattle.reading_order.specs.Laws.Finding.{Finding}
use Rattle.reading_order.proofs.finding.FoundNodes.find_bad.Given as goal

abbrev pub invariant-loop-b : goal.invariant-loop-b
invariant-loop-b l =
    Finding l.initial.self.list l.initial.self.count (bad_nodes l.rows l.entries 0) l.self.seen l.self.list l.self.count (bad_nodes l.rows (l.entries - l.b) l.b)
