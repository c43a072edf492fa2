use mathlib.Core.Path.{refl}
use Rattle.checking_walk.specs.Laws.Lowest.{met, lowest_some, lowest_none, message_before, step_met, step_missed, message_after, none_after}
use Rattle.checking_walk.proofs.edges.letter_of.Goals as goal

pub returns-in-Some : goal.returns-in-Some
returns-in-Some c =
    let low = lowest_some c.message_to.ensures c.in-Some.is in
    message_before _ _ _ c.args.t.now.lent.cut c.of-x.ensures _ c.if-x-eq0.true low.0 low.1

pub returns-then-eq : goal.returns-then-eq
returns-then-eq c =
    step_met _ _ _ c.args.t.now.lent.cut c.of-x.ensures _ c.if-x-eq0.true refl (lowest_none c.message_to.ensures c.in-None.is) (met _ c.step.ensures c.if-eq.ensures)

pub returns-else-eq : goal.returns-else-eq
returns-else-eq c =
    step_missed _ _ _ c.args.t.now.lent.cut c.of-x.ensures _ c.if-x-eq0.true refl (lowest_none c.message_to.ensures c.in-None.is) (met _ c.step.ensures c.if-eq.ensures)

pub returns-in-Some-message_to : goal.returns-in-Some-message_to
returns-in-Some-message_to c =
    let low = lowest_some c.message_to-else-x-eq0.ensures c.in-Some-message_to.is in
    message_after _ _ _ c.args.t.now.lent.cut c.of-x.ensures _ c.if-x-eq0.false low.0 low.1

pub returns-in-None-message_to : goal.returns-in-None-message_to
returns-in-None-message_to c =
    none_after _ _ _ c.args.t.now.lent.cut c.of-x.ensures _ c.if-x-eq0.false refl (lowest_none c.message_to-else-x-eq0.ensures c.in-None-message_to.is)
