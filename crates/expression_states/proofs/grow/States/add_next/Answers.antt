use Rattle.expression_states.specs.Laws.Growing.{marked_entry, marked_end}
use Rattle.expression_states.proofs.grow.States.add_next.Goals as goal

pub loop-mark-preserved : goal.loop-mark-preserved
loop-mark-preserved c = marked_entry c.loop-mark.invariant _ c.type_inv.marks c.loop-mark-test.true c.bitand.ensures c.add.ensures

pub returns : goal.returns
returns c = marked_end c.loop-mark.invariant c.loop-mark-test.false
