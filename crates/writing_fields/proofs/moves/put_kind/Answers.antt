use mathlib.Core.Path.{◌∙◌}
use Rattle.writing_fields.specs.Laws.Kinds.{kind_ends, kind_goes_on}
use Rattle.writing_fields.proofs.moves.put_kind.Goals as goal

pub returns-then-kind-ne0 : goal.returns-then-kind-ne0
returns-then-kind-ne0 c = record {
  put = kind_goes_on _ _ c.entry-kind.ensures c.if-kind-ne0.true c.number.ensures.put c.put_action.ensures.put;
  same = c.put_action.ensures.same ∙ c.number.ensures.same;
}

pub returns-else-kind-ne0 : goal.returns-else-kind-ne0
returns-else-kind-ne0 c = record { put = kind_ends _ _ c.entry-kind.ensures c.if-kind-ne0.false c.number.ensures.put; same = c.number.ensures.same }
