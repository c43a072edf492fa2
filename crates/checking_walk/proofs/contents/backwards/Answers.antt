use Rattle.checking_walk.specs.Laws.Shown.{back_room, back_next, back_end}
use Rattle.checking_walk.proofs.contents.backwards.Goals as goal

pub lay_part-n-requires : goal.lay_part-n-requires
lay_part-n-requires c = back_room c.loop-at.invariant c.loop-at-test.true c.edge_to-edge.ensures c.requires.k_in_bounds

pub loop-at-preserved : goal.loop-at-preserved
loop-at-preserved c = back_next c.loop-at.invariant c.loop-at-test.true c.edge_to-edge.ensures c.lay_part-n.ensures

pub returns : goal.returns
returns c = back_end c.loop-at.invariant c.loop-at-test.false
