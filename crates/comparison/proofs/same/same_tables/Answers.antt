use Rattle.std.proofs.Common.{◌∙◌}
use Rattle.comparison.specs.Laws.{pointwise_is}
use Rattle.comparison.proofs.same.same_tables.Goals as goal

pub returns : goal.returns
returns c = c.eq.ensures ∙ rw pointwise_is
