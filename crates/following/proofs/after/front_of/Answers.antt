use Rattle.following.specs.Laws.Front.{front_next, front_stops}
use Rattle.following.proofs.after.front_of.Goals as goal

pub returns-then-cut-contents : goal.returns-then-cut-contents
returns-then-cut-contents c = front_stops _ _ c.loop-i.invariant c.loop-i-test.true c.requires c.if-cut-contents.true

pub loop-i-preserved : goal.loop-i-preserved
loop-i-preserved c = front_next _ _ c.loop-i.invariant c.loop-i-test.true c.requires c.if-cut-contents.false
