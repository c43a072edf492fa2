use Rattle.controls.proofs.moves.is_at.Goals as goal

pub returns : goal.returns
returns c = rw (c.wide.ensures.same, c.part_at-p.ensures.state)
