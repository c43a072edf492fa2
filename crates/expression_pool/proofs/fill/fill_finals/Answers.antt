use Rattle.std.proofs.Common.{ap, ◌∙◌}
use Rattle.expression_pool.specs.Filled.{final_mark}
use Rattle.expression_pool.specs.Laws.Entries.{finals_begin, finals_entry_next}
use Rattle.expression_pool.proofs.fill.fill_finals.Goals as goal

pub loop-i-init : goal.loop-i-init
loop-i-init c = finals_begin _ _ _ _

pub loop-i-preserved : goal.loop-i-preserved
loop-i-preserved c = finals_entry_next _ c.loop-i.invariant c.loop-i-test.true (c.final_mark.ensures ∙ ap (final_mark c.args.skips c.args.last) c.index-states-i.is)
