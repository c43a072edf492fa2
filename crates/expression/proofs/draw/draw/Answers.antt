use Rattle.expression.specs.Said.{automaton_of}
use Rattle.expression.specs.Laws.Drawing.{found_few, draws_none, draws_into}
use Rattle.expression.proofs.draw.draw.Goals as goal

pub returns-then-states-gt-LIMIT-clause-draws : goal.returns-then-states-gt-LIMIT-clause-draws
returns-then-states-gt-LIMIT-clause-draws c =
    draws_none (automaton_of c.args.part c.args.occurring.now.follow c.args.occurring.now.label) (c.grow-states.ensures.finds _ c.marks-marks.ensures) c.if-states-gt-LIMIT.true

pub fill_finals-requires : goal.fill_finals-requires
fill_finals-requires c = found_few (c.grow-states.ensures.finds _ c.marks-marks.ensures) c.found-found.ensures c.if-states-gt-LIMIT.false

pub fill_arcs-requires : goal.fill_arcs-requires
fill_arcs-requires c = found_few (c.grow-states.ensures.finds _ c.marks-marks.ensures) c.found-found.ensures c.if-states-gt-LIMIT.false

pub returns-clause-draws : goal.returns-clause-draws
returns-clause-draws c =
    draws_into (automaton_of c.args.part c.args.occurring.now.follow c.args.occurring.now.label) (c.grow-states.ensures.finds _ c.marks-marks.ensures) c.if-states-gt-LIMIT.false
    c.requires c.found-found.ensures c.fill_finals.ensures (c.fill_arcs.ensures.fills _ c.marks-marks.ensures)
