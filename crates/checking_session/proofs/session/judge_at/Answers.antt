use mathlib.Core.Path.{sym, ap, ◌∙◌}
use native.Mathlib.Omega.{arith}
use Rattle.std.specs.Prelude.{Some}
use Rattle.reading_file.specs.Session.{tables_in}
use Rattle.checking_cursor.specs.Laws.Seeking.{none_found}
use Rattle.checking_session.specs.Laws.Cursors.{here_outside, here_inside, here_end}
use Rattle.checking_session.proofs.session.judge_at.Goals as goal

pub returns-in_default-clause-judged : goal.returns-in_default-clause-judged
returns-in_default-clause-judged c =
    let a = c.args in
    here_end (tables_in a.s.now) a.s.now.valid a.at a.pairs (none_found a.at c.in_default.not-Some) c.requires.ready.scratch (omega arith)

pub returns-then-not-begins_inside-clause-judged : goal.returns-then-not-begins_inside-clause-judged
returns-then-not-begins_inside-clause-judged c =
    let a = c.args in
    here_outside (tables_in a.s.now) a.s.now.valid a.at a.pairs (c.in-Some.is ∙ ap Some c.in-Start.is) c.requires.ready.scratch (sym c.begins_inside.ensures ∙ c.if-not-begins_inside.true)

pub returns-else-not-begins_inside-clause-judged : goal.returns-else-not-begins_inside-clause-judged
returns-else-not-begins_inside-clause-judged c =
    let a = c.args in
    here_inside (tables_in a.s.now) a.s.now.valid a.at a.pairs (c.in-Some.is ∙ ap Some c.in-Start.is) c.requires.ready.scratch (sym c.begins_inside.ensures ∙ c.if-not-begins_inside.false) (omega arith)
