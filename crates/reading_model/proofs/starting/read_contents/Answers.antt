use Rattle.std.proofs.Common.{◌∙◌, sub-eq-zero_of_le}
use Rattle.numbers.specs.Laws.Parts.{handed_on, one_more_lem}
use Rattle.reading_model.specs.Queues.{read_contents}
use Rattle.reading_model.proofs.starting.read_contents.Goals as goal

pub returns-in_err-read_content-clause-read : goal.returns-in_err-read_content-clause-read
unfolding read_contents
returns-in_err-read_content-clause-read c =
    rw (← c.loop-i.invariant.rest, one_more_lem c.loop-i-test.true, ← c.in_err-read_content.ensures.read)
    (handed_on c.from_residual.result _ _ c.from_residual.ensures.1)

pub loop-i-preserved : goal.loop-i-preserved
unfolding read_contents
loop-i-preserved c =
    record {
      rest = rw (← c.loop-i.invariant.rest, one_more_lem c.loop-i-test.true, ← c.in_ok-read_content.ensures.read, c.in_ok-read_content.ensures.bytes);
      bytes = c.in_ok-read_content.ensures.bytes ∙ c.loop-i.invariant.bytes;
    }

pub returns-clause-read : goal.returns-clause-read
unfolding read_contents
returns-clause-read c = rw (← c.loop-i.invariant.rest, sub-eq-zero_of_le c.loop-i-test.false)
