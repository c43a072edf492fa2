use Rattle.std.proofs.Common.{rules, ◌∙◌}
use Rattle.std.proofs.lemmas.List.{set-get_or}
use Rattle.expression_sets.specs.Laws.Linking.{linking_empty, linking_ends, table_begins, table_with, table_without}
use Rattle.expression_sets.proofs.sets.Occurring.connect.Goals.{then-rest-eq1, else-rest-eq1}
use Rattle.expression_sets.proofs.sets.Occurring.connect.Goals as goal

pub loop-behind-init : goal.loop-behind-init
loop-behind-init c = table_begins _ c.from.view_is (search (rules, c.well_formed))

pub loop-behind-preserved : goal.loop-behind-preserved
loop-behind-preserved c =
    elim c.if-rest-eq1.branch [
      | then-rest-eq1 w ↦ table_with c.loop-behind.invariant c.loop-behind-test.true _ w.if-rest-eq1.true w.bitor.ensures w.behind-items-is
      | else-rest-eq1 w ↦ table_without c.loop-behind.invariant c.loop-behind-test.true _ w.if-rest-eq1.false w.behind-items-is
    ]

-- the entry that was lent stays as it was
pub returns-then-rest-eq0-clause-follow : goal.returns-then-rest-eq0-clause-follow
returns-then-rest-eq0-clause-follow c =
    set-get_or c.loop-behind.behind-items c.loop-behind.behind-index _ ∙ linking_empty c.loop-behind.invariant.linking c.if-rest-eq0.true

pub returns-clause-follow : goal.returns-clause-follow
returns-clause-follow c = linking_ends c.loop-behind.invariant.linking c.loop-behind-test.false
