use Rattle.std.proofs.Common.{refl, ap, ◌∙◌}
use Rattle.expression_states.specs.States.{next_of}
use Rattle.expression_pool.specs.Laws.Entries.{arcs_begin, arcs_entry_next}
use Rattle.expression_pool.proofs.fill.fill_arcs.Goals as goal

pub loop-i-init : goal.loop-i-init
loop-i-init c = arcs_begin _ _ _ _ _

pub loop-i-preserved : goal.loop-i-preserved
loop-i-preserved c = arcs_entry_next _ c.loop-i.invariant c.loop-i-test.true (c.next.ensures ∙ ap (next_of c.args.moves.now.first c.args.moves.now.follow.now) c.index-states-i.is) refl c.fill_row.ensures
