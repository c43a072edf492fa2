use mathlib.Core.Path.{refl}
use Rattle.writing_fields.specs.Laws.Writers.{arcs_skip, arcs_on, arcs_done}
use Rattle.writing_fields.proofs.pool.put_arcs.Goals.{then-arc-ne0, else-arc-ne0}
use Rattle.writing_fields.proofs.pool.put_arcs.Goals as goal

pub loop-m-preserved : goal.loop-m-preserved
loop-m-preserved c =
    elim c.if-arc-ne0.branch [
      | then-arc-ne0 w ↦ arcs_on c.args.row.now c.loop-m.m refl c.loop-m-test.true c.loop-m.invariant w.if-arc-ne0.true w.two.ensures w.w-is
      | else-arc-ne0 w ↦ arcs_skip c.args.row.now c.loop-m.m refl c.loop-m-test.true c.loop-m.invariant w.if-arc-ne0.false w.w-is
    ]

pub returns : goal.returns
returns c = arcs_done c.args.row.now _ c.loop-m-test.false c.loop-m.invariant c.requires.row_len_bound
