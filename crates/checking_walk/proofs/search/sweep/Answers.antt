use mathlib.Core.Path.{◌∙◌}
use Rattle.checking_pairs.specs.Laws.Marks.{pushed_as}
use Rattle.checking_walk.specs.Laws.Sweeps.{sweeping_next, sweeping_end}
use Rattle.checking_walk.proofs.search.sweep.Goals as goal

pub loop-m-preserved : goal.loop-m-preserved
loop-m-preserved c =
    let kept = c.loop-m.invariant.1 in
    let on = c.mark_next.ensures.kept in
    (sweeping_next c.loop-m.invariant.0 c.loop-m-test.true (pushed_as c.read.ensures.is c.mark_next.ensures.pushed), (on.0 ∙ kept.0, on.1 ∙ kept.1))

pub returns-clause-swept : goal.returns-clause-swept
returns-clause-swept c = record { shows = sweeping_end c.loop-m.invariant.0 c.loop-m-test.false }
