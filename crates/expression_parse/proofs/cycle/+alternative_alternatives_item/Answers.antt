use Rattle.std.proofs.lemmas.Result.{err_from_is_err_and}
use Rattle.std.proofs.Common.{sym, ◌∙◌, arith}
use Rattle.expression_parse.specs.Steps.{went, stops}
use Rattle.expression_parse.specs.Laws.Cycle.{did, halted, alternative_none, item_then_halts, item_then_items, alternative_last, after_bar, bar_falls, bar_then_halts, bar_then_alternatives}
use Rattle.expression_parse.specs.Laws.Groups.{item_none, group_ready, group_falls, group_halts, group_open, group_closed}
use Rattle.expression_parse.proofs.cycle.+alternative_alternatives_item.Goals as goal

pub alternative-returns-then-ends : goal.alternative-returns-then-ends
alternative-returns-then-ends t c = went (alternative_none c.requires (sym c.ends.ensures ∙ c.if-ends.true))

pub alternative-returns-in_err-head : goal.alternative-returns-in_err-head
alternative-returns-in_err-head t c = let p = err_from_is_err_and c.from_residual.result c.from_residual.ensures.1 in rw (p.1, p.2) (stops (halted c.item.ensures c.in_err-head.was))

pub alternative-returns-in_err-rest : goal.alternative-returns-in_err-rest
alternative-returns-in_err-rest t c =
    let p = err_from_is_err_and c.from_residual-in_err-rest.result c.from_residual-in_err-rest.ensures.1 in rw (p.1, p.2) (stops (item_then_halts (did c.item.ensures c.in_ok-head.was) (halted c.alternative.ensures c.in_err-rest.was)))

pub alternative-returns : goal.alternative-returns
alternative-returns t c =
    rw c.sequence.ensures.label
    (went
    (item_then_items (did c.item.ensures c.in_ok-head.was) (did c.alternative.ensures c.in_ok-rest.was) c.sequence.ensures.parts))

pub alternatives-returns-in_err-head : goal.alternatives-returns-in_err-head
alternatives-returns-in_err-head t c = let p = err_from_is_err_and c.from_residual.result c.from_residual.ensures.1 in rw (p.1, p.2) (stops (halted c.alternative.ensures c.in_err-head.was))

pub alternatives-returns-then-not-stands : goal.alternatives-returns-then-not-stands
alternatives-returns-then-not-stands t c =
    went (alternative_last (did c.alternative.ensures c.in_ok-head.was) (sym c.stands.ensures ∙ c.if-not-stands.true))

pub alternatives-alternatives-requires : goal.alternatives-alternatives-requires
alternatives-alternatives-requires t c =
    let w = did c.alternative.ensures c.in_ok-head.was in
    let bar = sym c.stands.ensures ∙ c.if-not-stands.false in
    (omega (arith, c.decreases, bar_falls w bar c.skip-from.ensures), after_bar w bar c.skip-from.ensures)

pub alternatives-returns-in_err-rest : goal.alternatives-returns-in_err-rest
alternatives-returns-in_err-rest t c =
    let p = err_from_is_err_and c.from_residual-in_err-rest.result c.from_residual-in_err-rest.ensures.1 in rw (p.1, p.2) (stops
    (bar_then_halts (did c.alternative.ensures c.in_ok-head.was) (sym c.stands.ensures ∙ c.if-not-stands.false) c.skip-from.ensures
    (halted c.alternatives.ensures c.in_err-rest.was)))

pub alternatives-returns : goal.alternatives-returns
alternatives-returns t c =
    went
    (bar_then_alternatives (did c.alternative.ensures c.in_ok-head.was) (sym c.stands.ensures ∙ c.if-not-stands.false) c.skip-from.ensures
    (did c.alternatives.ensures c.in_ok-rest.was) c.either.ensures)

pub item-returns-then-b-ne40 : goal.item-returns-then-b-ne40
item-returns-then-b-ne40 t c = stops (item_none c.requires (sym c.is_digit.ensures ∙ c.if-is_digit.false) c.if-b-ne40.true)

pub item-alternatives-requires : goal.item-alternatives-requires
item-alternatives-requires t c =
    (omega (arith, c.decreases, group_falls c.requires c.if-b-ne40.false c.skip-from.ensures), group_ready c.requires c.if-b-ne40.false c.skip-from.ensures)

pub item-returns-in_err-group : goal.item-returns-in_err-group
item-returns-in_err-group t c =
    let p = err_from_is_err_and c.from_residual.result c.from_residual.ensures.1 in rw (p.1, p.2) (stops (group_halts c.requires c.if-b-ne40.false c.skip-from.ensures (halted c.alternatives.ensures c.in_err-group.was)))

pub item-returns-then-not-stands : goal.item-returns-then-not-stands
item-returns-then-not-stands t c =
    stops
    (group_open c.requires c.if-b-ne40.false c.skip-from.ensures (did c.alternatives.ensures c.in_ok-group.was) (sym c.stands.ensures ∙ c.if-not-stands.true))

pub item-returns : goal.item-returns
item-returns t c =
    rw c.starred.ensures.label
    (went
    (c.starred.ensures.part.becomes _ _ _ _ _
    (group_closed c.requires c.if-b-ne40.false c.skip-from.ensures (did c.alternatives.ensures c.in_ok-group.was) (sym c.stands.ensures ∙ c.if-not-stands.false))))
