use Rattle.std.proofs.Common.{◌∙◌, sub-eq-zero_of_le}
use Rattle.numbers.specs.Laws.Parts.{handed_on, one_more_lem}
use Rattle.reading_model.specs.Machines.{read_sizes}
use Rattle.reading_model.proofs.machines.read_sizes.Goals as goal

pub returns-in_err-v-clause-read : goal.returns-in_err-v-clause-read
unfolding read_sizes
returns-in_err-v-clause-read c =
    let rest = rw c.from-i-end.ensures at c.loop-i.invariant.rest in
    let more = rw c.from-i-end.ensures at c.loop-i-test.true in
    rw (← rest, one_more_lem more, ← c.in_err-v.ensures.read)
    (handed_on c.from_residual.result _ _ c.from_residual.ensures.1)

pub loop-i-preserved : goal.loop-i-preserved
unfolding read_sizes
loop-i-preserved c =
    record {
      rest = rw (← c.loop-i.invariant.rest, one_more_lem c.loop-i-test.true, ← c.in_ok-v.ensures.read, c.in_ok-v.ensures.bytes, c.from-product.ensures);
      bytes = c.in_ok-v.ensures.bytes ∙ c.loop-i.invariant.bytes;
      most = rw c.from-product.ensures c.in_ok-v.ensures.most;
    }

pub returns-clause-read : goal.returns-clause-read
unfolding read_sizes
returns-clause-read c =
    let rest = rw c.from-i-end.ensures at c.loop-i.invariant.rest in
    let none = rw c.from-i-end.ensures at c.loop-i-test.false in
    rw (← rest, sub-eq-zero_of_le none)
