use Rattle.std.proofs.Common.{sym, ap, ◌∙◌}
use Rattle.std.proofs.lemmas.Bool.{eqb-false}
use Rattle.expression_states.specs.States.{said_place}
use Rattle.expression_pool.specs.Laws.Entries.{arc_set}
use Rattle.expression_pool.proofs.fill.arc_to.Goals as goal

pub returns-in-Some : goal.returns-in-Some
returns-in-Some c =
    ap said_place (sym c.in-Some.is)
    ∙ arc_set c.args.states.now (eqb-false _ 0 (sym c.is_empty.ensures ∙ c.if-is_empty.false)) c.place_of.ensures

pub returns-in-None : goal.returns-in-None
returns-in-None c =
    ap said_place (sym c.in-None.is)
    ∙ arc_set c.args.states.now (eqb-false _ 0 (sym c.is_empty.ensures ∙ c.if-is_empty.false)) c.place_of.ensures
