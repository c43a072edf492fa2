use native.Mathlib.Omega.{arith}
use Rattle.checking_walk.specs.Laws.Lowest.{met, low_met, low_next, low_end}
use Rattle.checking_walk.proofs.edges.message_to.Goals as goal

pub returns-then-eq : goal.returns-then-eq
returns-then-eq c =
    record { is = (low_met _ _ _ c.loop-m.invariant c.loop-m-test.true (met _ c.read.ensures c.if-eq.ensures), c.loop-m-test.true) }

pub loop-m-preserved : goal.loop-m-preserved
loop-m-preserved c = low_next _ _ _ c.loop-m.invariant c.loop-m-test.true (met _ c.read.ensures c.if-eq.ensures)

pub returns : goal.returns
returns c = record { is = omega (arith, low_end _ _ _ c.loop-m.invariant c.loop-m-test.false, c.loop-m-test.false) }
