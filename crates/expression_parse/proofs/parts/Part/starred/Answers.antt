use Rattle.std.proofs.Common.{sym, ◌∙◌}
use Rattle.expression_parse.specs.Laws.Factors.{star_none, star_there}
use Rattle.expression_parse.proofs.parts.Part.starred.Goals as goal

pub returns-then-not-stands-clause-part : goal.returns-then-not-stands-clause-part
returns-then-not-stands-clause-part c = star_none c.skip-next.ensures (sym c.stands.ensures ∙ c.if-not-stands.true)

pub returns-clause-part : goal.returns-clause-part
returns-clause-part c = star_there c.skip-next.ensures (sym c.stands.ensures ∙ c.if-not-stands.false) c.skip-behind.ensures c.connect.ensures.follow
