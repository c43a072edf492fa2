use Rattle.std.proofs.Common.{refl}
use Rattle.expression_sets.specs.Laws.Gathering.{marking_begins, marking_without, marking_with, marking_ends}
use Rattle.expression_sets.proofs.sets.Occurring.marks.Goals.{then-m-lt-LIMIT, else-m-lt-LIMIT}
use Rattle.expression_sets.proofs.sets.Occurring.marks.Goals as goal

pub loop-i-init : goal.loop-i-init
loop-i-init c = marking_begins _ _ refl

pub loop-i-preserved : goal.loop-i-preserved
loop-i-preserved c =
    elim c.if-m-lt-LIMIT.branch [
      | then-m-lt-LIMIT w ↦ marking_with c.loop-i.invariant c.loop-i-test.true _ c.from-m.ensures w.if-m-lt-LIMIT.true w.only.ensures w.bitor.ensures w.marks-is
      | else-m-lt-LIMIT w ↦ marking_without c.loop-i.invariant c.loop-i-test.true c.from-m.ensures w.if-m-lt-LIMIT.false w.marks-is
    ]

pub returns : goal.returns
returns c = marking_ends c.loop-i.invariant c.loop-i-test.false
