use Rattle.std.proofs.Common.{refl, replicate}
use Rattle.expression_states.specs.Laws.Growing.{finding_begin, finding_next, all_found, more_found}
use Rattle.expression_states.proofs.grow.States.grow.Goals as goal

pub loop-at-init : goal.loop-at-init
loop-at-init c = finding_begin _ _ _ (replicate 159 0) refl

pub returns-then-states-gt-LIMIT : goal.returns-then-states-gt-LIMIT
returns-then-states-gt-LIMIT c = more_found c.loop-at.invariant c.if-states-gt-LIMIT.true

pub loop-at-preserved : goal.loop-at-preserved
loop-at-preserved c = finding_next c.loop-at.invariant _ c.loop-at-test.true c.if-states-gt-LIMIT.false c.next-next.ensures c.add_next.ensures

pub returns : goal.returns
returns c = all_found c.loop-at.invariant c.loop-at-test.false
