use mathlib.Core.Path.{refl}
use lib.ListN.{get_or}
use Rattle.writing_fields.specs.Laws.Arcs.{count_next, count_within, count_end}
use Rattle.writing_fields.proofs.pool.count_arcs.Goals as goal

pub loop-arc-preserved : goal.loop-arc-preserved
loop-arc-preserved c = (
  count_next c.args.row.now _ refl c.loop-arc-test.true _ c.loop-arc.invariant.0 c.one_more-count.ensures,
  count_within (get_or c.args.row.now c.loop-arc.arc-index 0) _ c.loop-arc.invariant.1 c.one_more-count.ensures,
)

pub returns : goal.returns
returns c = count_end c.args.row.now _ c.loop-arc-test.false _ c.loop-arc.invariant.0
