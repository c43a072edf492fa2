use Rattle.std.proofs.Common.{◌∙◌, sub-eq-zero_of_le}
use Rattle.numbers.specs.Laws.Parts.{handed_on_with, one_more_lem}
use Rattle.reading_model.specs.Transitions.{read_rows}
use Rattle.reading_model.proofs.transitions.read_rows.Goals as goal

pub returns-in_err-read_transition-clause-read : goal.returns-in_err-read_transition-clause-read
unfolding read_rows
returns-in_err-read_transition-clause-read c =
    let rest = rw c.from-t-end.ensures at c.loop-t.invariant.rest in
    let more = rw c.from-t-end.ensures at c.loop-t-test.true in
    rw (← rest, one_more_lem more, ← c.in_err-read_transition.ensures.read)
    (handed_on_with c.from_residual.result _ _ _ c.from_residual.ensures.1)

pub loop-t-preserved : goal.loop-t-preserved
unfolding read_rows
loop-t-preserved c =
    record {
      rest = rw (← c.loop-t.invariant.rest, one_more_lem c.loop-t-test.true, ← c.in_ok-read_transition.ensures.read, c.in_ok-read_transition.ensures.bytes);
      bytes = c.in_ok-read_transition.ensures.bytes ∙ c.loop-t.invariant.bytes;
    }

pub returns-clause-read : goal.returns-clause-read
unfolding read_rows
returns-clause-read c =
    let rest = rw c.from-t-end.ensures at c.loop-t.invariant.rest in
    let none = rw c.from-t-end.ensures at c.loop-t-test.false in
    rw (← rest, sub-eq-zero_of_le none)
