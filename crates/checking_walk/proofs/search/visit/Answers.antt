use native.Mathlib.Omega.{arith}
use Rattle.checking_pairs.specs.Laws.Marks.{pushed_as, swept_more}
use Rattle.checking_walk.specs.Laws.Sweeps.{visit_before, visit_after}
use Rattle.checking_walk.proofs.search.visit.Goals as goal

pub mark_next-requires-clause-from_lt_tail : goal.mark_next-requires-clause-from_lt_tail
mark_next-requires-clause-from_lt_tail c = omega (arith, c.requires.from_lt_tail, swept_more c.requires.tables c.sweep.ensures.swept)

pub returns-then-x-eq0-clause-swept : goal.returns-then-x-eq0-clause-swept
returns-then-x-eq0-clause-swept c =
    let t = c.args.t.now in
    visit_before t.arcs.now t.rows.now t.walk c.args.x t.lent.cut c.if-x-eq0.true c.sweep.ensures.swept (pushed_as c.step.ensures.is c.mark_next.ensures.pushed)

pub returns-else-x-eq0-clause-swept : goal.returns-else-x-eq0-clause-swept
returns-else-x-eq0-clause-swept c =
    let t = c.args.t.now in
    visit_after t.arcs.now t.rows.now t.walk c.args.x t.lent.cut c.requires.node_fits c.if-x-eq0.false c.sweep-else-x-eq0.ensures.swept
