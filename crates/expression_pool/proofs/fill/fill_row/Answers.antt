use Rattle.expression_pool.specs.Laws.Entries.{row_begin, row_entry_next}
use Rattle.expression_pool.proofs.fill.fill_row.Goals as goal

pub loop-m-init : goal.loop-m-init
loop-m-init c = row_begin _ _ _ _ _

pub loop-m-preserved : goal.loop-m-preserved
loop-m-preserved c = row_entry_next _ c.loop-m.invariant c.type_inv.marks c.loop-m-test.true c.bitand.ensures c.arc_to.ensures
