use mathlib.Core.Path.{sym, ap, ◌∙◌}
use native.Mathlib.Omega.{arith}
use Rattle.std.specs.Prelude.{Some}
use Rattle.reading_file.specs.Session.{tables_in}
use Rattle.checking_cursor.specs.Laws.Seeking.{none_found}
use Rattle.checking_session.specs.Laws.Cursors.{pairs_at, left_outside, left_inside, left_end}
use Rattle.checking_session.proofs.session.judge_from.Goals as goal

pub returns-in_default-clause-judged : goal.returns-in_default-clause-judged
returns-in_default-clause-judged c =
    let a = c.args in
    let e = none_found a.at c.in_default.not-Some in
    let l = pairs_at _ e c.requires.stands.1 in
    left_end (tables_in a.s.now) a.s.now.valid a.at a.pairs e c.requires.ready.scratch (omega (arith, l))

pub returns-then-not-begins_inside-clause-judged : goal.returns-then-not-begins_inside-clause-judged
returns-then-not-begins_inside-clause-judged c =
    let a = c.args in
    left_outside (tables_in a.s.now) a.s.now.valid a.at a.pairs (c.in-Some.is ∙ ap Some c.in-Start.is) c.requires.ready.scratch (sym c.begins_inside.ensures ∙ c.if-not-begins_inside.true)

pub returns-else-not-begins_inside-clause-judged : goal.returns-else-not-begins_inside-clause-judged
returns-else-not-begins_inside-clause-judged c =
    let a = c.args in
    left_inside (tables_in a.s.now) a.s.now.valid a.at a.pairs (c.in-Some.is ∙ ap Some c.in-Start.is) (sym c.begins_inside.ensures ∙ c.if-not-begins_inside.false) c.judge_from_step.ensures.judged
