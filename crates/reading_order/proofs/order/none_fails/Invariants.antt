use Prim.Native.Nat.{◌-◌}
use lib.ListN.{take}
use Rattle.reading_order.specs.Nodes.{most_nodes, next_nodes, fails}
use Rattle.reading_order.specs.Search.{reached}
use Rattle.reading_order.specs.Laws.Testing.{Testing}
use Rattle.reading_order.proofs.order.none_fails.Given as goal

abbrev pub invariant-loop-k : goal.invariant-loop-k
invariant-loop-k l = Testing (next_nodes l.arcs l.q.messages l.q.count) (fails l.finals) (reached l.arcs l.q.messages l.q.count (take l.initial.found.count l.initial.found.list)) l.found.seen l.found.list l.found.count l.k

abbrev pub decreases-loop-k : goal.decreases-loop-k
decreases-loop-k l = most_nodes - l.k
