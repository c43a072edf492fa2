use Rattle.std.proofs.Common.{◌∙◌, sub-eq-zero_of_le, length-set}
use Rattle.numbers.specs.Laws.Parts.{handed_on_with, one_more_lem}
use Rattle.reading_model.specs.Words.{read_word}
use Rattle.reading_model.proofs.words.read_word.Goals as goal

pub returns-in_err-table-clause-read : goal.returns-in_err-table-clause-read
unfolding read_word
returns-in_err-table-clause-read c =
    rw (← c.loop-j.invariant.rest, one_more_lem c.loop-j-test.true, ← c.in_err-table.ensures.read)
    (handed_on_with c.from_residual.result _ _ _ c.from_residual.ensures.1)

pub loop-j-preserved : goal.loop-j-preserved
unfolding read_word
loop-j-preserved c =
    record {
      rest = rw (← c.loop-j.invariant.rest, one_more_lem c.loop-j-test.true, ← c.in_ok-table.ensures.read, c.in_ok-table.ensures.bytes);
      bytes = c.in_ok-table.ensures.bytes ∙ c.loop-j.invariant.bytes;
      long = length-set c.loop-j.table c.loop-j.j c.in_ok-table.field-0 ∙ c.loop-j.invariant.long;
    }

pub returns-clause-read : goal.returns-clause-read
unfolding read_word
returns-clause-read c = rw (← c.loop-j.invariant.rest, sub-eq-zero_of_le c.loop-j-test.false)
