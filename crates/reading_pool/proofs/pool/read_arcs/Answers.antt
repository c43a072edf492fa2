use Rattle.std.proofs.Common.{◌∙◌, sub-eq-zero_of_le}
use Rattle.numbers.specs.Laws.Parts.{handed_on_with, one_more_lem}
use Rattle.reading_pool.specs.Pool.{read_arcs}
use Rattle.reading_pool.proofs.pool.read_arcs.Goals as goal

pub returns-in_err-message-clause-read : goal.returns-in_err-message-clause-read
unfolding read_arcs
returns-in_err-message-clause-read c =
    rw (← c.loop-i.invariant.rest, one_more_lem c.loop-i-test.true, ← c.in_err-message.ensures.read)
    (handed_on_with c.from_residual.result _ _ _ c.from_residual.ensures.1)

pub loop-i-preserved : goal.loop-i-preserved
unfolding read_arcs
loop-i-preserved c =
    record {
      rest = rw (← c.loop-i.invariant.rest, one_more_lem c.loop-i-test.true, ← c.in_ok-message.ensures.read, c.in_ok-message.ensures.bytes, c.from-raw.ensures);
      bytes = c.in_ok-message.ensures.bytes ∙ c.loop-i.invariant.bytes;
    }

pub returns-clause-read : goal.returns-clause-read
unfolding read_arcs
returns-clause-read c = rw (← c.loop-i.invariant.rest, sub-eq-zero_of_le c.loop-i-test.false)
