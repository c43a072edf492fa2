use Rattle.std.proofs.Common.{refl, ◌∙◌}
use Rattle.std.proofs.lemmas.Result.{err_from_is_err_and}
use Rattle.expression.specs.Laws.Drawing.{long_is, outside_is, read_is, offender_is, drawn_is}
use Rattle.expression.proofs.draw.expression_into.Goals as goal

pub returns-then-text-gt-MOST_TEXT-clause-draws : goal.returns-then-text-gt-MOST_TEXT-clause-draws
returns-then-text-gt-MOST_TEXT-clause-draws c = long_is _ c.if-text-gt-MOST_TEXT.true

pub returns-in_err-part-clause-draws : goal.returns-in_err-part-clause-draws
returns-in_err-part-clause-draws c =
    let p = err_from_is_err_and c.from_residual.result c.from_residual.ensures.1 in
    rw (p.1, p.2) (outside_is c.if-text-gt-MOST_TEXT.false c.parse.ensures c.in_err-part.was)

pub returns-in_err-check-clause-draws : goal.returns-in_err-check-clause-draws
returns-in_err-check-clause-draws c =
    let p = err_from_is_err_and c.from_residual-in_err-check.result c.from_residual-in_err-check.ensures.1 in
    rw (p.1, p.2) (offender_is c.if-text-gt-MOST_TEXT.false (read_is c.parse.ensures c.in_ok-part.was) _ c.check.ensures c.in_err-check.was)

pub returns-clause-draws : goal.returns-clause-draws
returns-clause-draws c =
    c.draw.ensures.draws
    ∙ drawn_is c.if-text-gt-MOST_TEXT.false (read_is c.parse.ensures c.in_ok-part.was) _ c.check.ensures c.in_ok-check.was refl refl
