use borrow.Author.Rules.{rules}
use mathlib.Core.Path.{◌∙◌}
use native.Mathlib.Nat.{sub-zero, sub-eq-zero_of_le}
use Rattle.numbers.specs.Laws.Parts.{one_more_lem, handed_on_with}
use Rattle.reading_file.specs.Map.{read_roots}
use Rattle.reading_file.proofs.map.read_roots.Goals as goal

pub loop-i-init : goal.loop-i-init
loop-i-init c = simp sub-zero (search rules)

pub returns-in_err-roots-clause-read : goal.returns-in_err-roots-clause-read
unfolding read_roots
returns-in_err-roots-clause-read c =
    handed_on_with _ _ _ _ c.from_residual.ensures.1 ∙ rw (← c.loop-i.invariant.0, one_more_lem c.loop-i-test.true, ← c.in_err-roots.ensures.read)

pub loop-i-preserved : goal.loop-i-preserved
unfolding read_roots
loop-i-preserved c =
    (rw (← c.loop-i.invariant.0, one_more_lem c.loop-i-test.true, ← c.in_ok-roots.ensures.read, c.within.ensures.bytes), c.within.ensures.bytes ∙ c.loop-i.invariant.1)

pub returns-clause-read : goal.returns-clause-read
unfolding read_roots
returns-clause-read c = rw (← c.loop-i.invariant.0, sub-eq-zero_of_le c.loop-i-test.false)
