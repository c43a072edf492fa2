use Rattle.numbers.specs.Laws.Parts.{handed_on_with}
use Rattle.reading_pool.specs.Pool.{read_pool}
use Rattle.reading_pool.proofs.pool.read_pool.Goals as goal

pub returns-in_err-read_states-clause-read : goal.returns-in_err-read_states-clause-read
unfolding read_pool
returns-in_err-read_states-clause-read c =
    let e = rw (c.requires.finals_value, c.requires.arcs_value) at c.in_err-read_states.ensures.read in
    rw (← c.in_ok-states.ensures.read, ← c.in_ok-states.ensures.bytes, ← e)
    (handed_on_with c.from_residual-in_err-read_states.result _ _ _ c.from_residual-in_err-read_states.ensures.1)

pub returns-clause-read : goal.returns-clause-read
unfolding read_pool
returns-clause-read c =
    let e = rw (c.requires.finals_value, c.requires.arcs_value) at c.in_ok-read_states.ensures.read in
    rw (← c.in_ok-states.ensures.read, ← c.in_ok-states.ensures.bytes, ← e)
