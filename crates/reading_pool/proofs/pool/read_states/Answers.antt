use Rattle.std.proofs.Common.{◌∙◌, sub-eq-zero_of_le}
use Rattle.numbers.specs.Laws.Parts.{handed_on_with, one_more_lem}
use Rattle.reading_pool.specs.Pool.{read_states}
use Rattle.reading_pool.proofs.pool.read_states.Goals as goal

pub returns-in_err-finals-clause-read : goal.returns-in_err-finals-clause-read
unfolding read_states
returns-in_err-finals-clause-read c =
    let rest = rw c.from-i-end.ensures at c.loop-i.invariant.rest in
    let more = rw c.from-i-end.ensures at c.loop-i-test.true in
    rw (← rest, one_more_lem more, ← c.in_err-finals.ensures.read)
    (handed_on_with c.from_residual.result _ _ _ c.from_residual.ensures.1)

pub loop-i-preserved : goal.loop-i-preserved
unfolding read_states
loop-i-preserved c =
    record {
      rest = rw (← c.loop-i.invariant.rest, one_more_lem c.loop-i-test.true, ← c.in_ok-finals.ensures.read, c.in_ok-finals.ensures.bytes);
      bytes = c.in_ok-finals.ensures.bytes ∙ c.loop-i.invariant.bytes;
    }

pub returns-clause-read : goal.returns-clause-read
unfolding read_states
returns-clause-read c =
    let rest = rw c.from-i-end.ensures at c.loop-i.invariant.rest in
    let none = rw c.from-i-end.ensures at c.loop-i-test.false in
    rw (← rest, sub-eq-zero_of_le none)
