use Prim.Native.Nat.{◌-◌, ◌/◌, ◌%◌}
use mathlib.Core.Path.{◌≡◌}
use Rattle.tables.specs.Queues.{first_message}
use Rattle.reading_order.specs.Nodes.{ranks, queue_nodes}
use Rattle.reading_order.specs.Laws.Finding.{Finding}
use Rattle.reading_order.proofs.finding.FoundNodes.find_next.Given as goal

abbrev pub invariant-loop-queue : goal.invariant-loop-queue
invariant-loop-queue l =
    let nodes = queue_nodes l.arcs (l.node / ranks) (l.node % ranks) l.q.messages in
    Finding l.initial.self.list l.initial.self.count (nodes l.q.count 0 0) l.self.seen l.self.list l.self.count (nodes (l.q.count - l.queue) l.queue l.first)
    × (l.first ≡ first_message l.q.messages l.queue)
