use borrow.Author.Rules.{rules}
use mathlib.Core.Path.{◌∙◌}
use native.Mathlib.Nat.{sub-zero, sub-eq-zero_of_le}
use Rattle.numbers.specs.Laws.Parts.{one_more_lem, handed_on_with}
use Rattle.reading_file.specs.Bad.{read_entries}
use Rattle.reading_file.proofs.bad.read_entries.Goals as goal

pub loop-b-init : goal.loop-b-init
loop-b-init c = simp sub-zero (search rules)

pub returns-in_err-control-clause-read : goal.returns-in_err-control-clause-read
unfolding read_entries
returns-in_err-control-clause-read c =
    handed_on_with _ _ _ _ c.from_residual.ensures.1
    ∙ rw (← c.loop-b.invariant.0, one_more_lem c.loop-b-test.true, ← c.from.ensures, ← c.in_err-control.ensures.read)

pub loop-b-preserved : goal.loop-b-preserved
unfolding read_entries
loop-b-preserved c = (
  rw (← c.loop-b.invariant.0, one_more_lem c.loop-b-test.true, ← c.from.ensures, ← c.in_ok-control.ensures.read, c.two.ensures.bytes),
  c.two.ensures.bytes ∙ c.loop-b.invariant.1,
)

pub returns-clause-read : goal.returns-clause-read
unfolding read_entries
returns-clause-read c = rw (← c.loop-b.invariant.0, sub-eq-zero_of_le c.loop-b-test.false)
