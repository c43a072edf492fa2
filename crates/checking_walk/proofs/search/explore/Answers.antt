use native.Mathlib.Omega.{arith}
use mathlib.Core.Path.{sym, ap, ◌∙◌}
use Rattle.checking_pairs.specs.Pairs.{decode}
use Rattle.checking_pairs.specs.Laws.Marks.{tables_most}
use Rattle.checking_pairs.specs.Over.{wrong_over}
use Rattle.checking_walk.specs.Laws.Sweeps.{swept_as}
use Rattle.checking_walk.specs.Laws.Exploring.{exploring_found, exploring_next, exploring_end}
use Rattle.checking_walk.proofs.search.explore.Goals as goal

pub offset_bounds-found-k : goal.offset_bounds-found-k
offset_bounds-found-k c = omega (arith, tables_most c.loop-k.invariant.0.tables)

pub bounds-found-k : goal.bounds-found-k
bounds-found-k c = omega (arith, tables_most c.loop-k.invariant.0.tables, c.loop-k.invariant.0.tables.queue_long)

pub returns-then-fails-clause-answered : goal.returns-then-fails-clause-answered
returns-then-fails-clause-answered c = exploring_found c.loop-k.invariant.0 c.loop-k-test.true (ap (wrong_over _ _) (ap decode (sym c.from.ensures) ∙ c.of-x.ensures.is) ∙ sym c.fails.ensures ∙ c.if-fails.true)

pub loop-k-smaller : goal.loop-k-smaller
loop-k-smaller c = omega (arith, c.loop-k-test.true, tables_most c.loop-k.invariant.0.tables)

pub loop-k-preserved : goal.loop-k-preserved
loop-k-preserved c =
    let here = ap decode (sym c.from.ensures) ∙ c.of-x.ensures.is in
    let kept = c.loop-k.invariant.1 in
    let on = c.visit.ensures.kept in
    (exploring_next c.loop-k.invariant.0 c.loop-k-test.true (ap (wrong_over _ _) here ∙ sym c.fails.ensures ∙ c.if-fails.false) (swept_as (sym here) c.visit.ensures.swept), (on.0 ∙ kept.0, on.1 ∙ kept.1))

pub returns-clause-answered : goal.returns-clause-answered
returns-clause-answered c = exploring_end c.loop-k.invariant.0 c.loop-k-test.false
