use Rattle.reading_order.specs.Laws.Testing.{fails_wrong}
use Rattle.reading_order.proofs.order.is_fault.Goals as goal

pub returns-then-node-eq-WRONG : goal.returns-then-node-eq-WRONG
returns-then-node-eq-WRONG c = fails_wrong _ _ c.if-node-eq-WRONG.true c.at.ensures c.requires.node_lt_most_nodes c.is_final-last.ensures
