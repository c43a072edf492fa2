use Rattle.checking_walk.specs.Laws.Shown.{Backing}
use Rattle.checking_walk.proofs.contents.backwards.Given as goal

abbrev pub invariant-loop-at : goal.invariant-loop-at
invariant-loop-at l = Backing l.t.arcs.now l.t.rows.now l.t.walk l.found.seen.now l.found.queue.now l.k l.initial.contents l.at l.n l.contents

abbrev pub decreases-loop-at : goal.decreases-loop-at
decreases-loop-at l = l.at
