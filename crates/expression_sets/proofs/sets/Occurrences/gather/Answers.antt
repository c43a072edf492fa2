use Rattle.std.proofs.Common.{◌∙◌}
use Rattle.expression_sets.specs.Laws.Gathering.{gathering_empty, gathering_without, gathering_entry, gathering_ends}
use Rattle.expression_sets.proofs.sets.Occurrences.gather.Goals.{then-rest-eq1, else-rest-eq1}
use Rattle.expression_sets.proofs.sets.Occurrences.gather.Goals as goal

pub returns-then-rest-eq0 : goal.returns-then-rest-eq0
returns-then-rest-eq0 c = gathering_empty c.loop-behind.invariant c.if-rest-eq0.true

pub loop-behind-preserved : goal.loop-behind-preserved
loop-behind-preserved c =
    elim c.if-rest-eq1.branch [
      | then-rest-eq1 w ↦ gathering_entry c.loop-behind.invariant _ c.type_inv.follow c.loop-behind-test.true w.if-rest-eq1.true (w.sum-is ∙ w.bitor-sum.ensures)
      | else-rest-eq1 w ↦ gathering_without c.loop-behind.invariant c.loop-behind-test.true w.if-rest-eq1.false w.sum-is
    ]

pub returns : goal.returns
returns c = gathering_ends c.loop-behind.invariant c.loop-behind-test.false
