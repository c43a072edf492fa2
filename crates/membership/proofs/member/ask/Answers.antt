use mathlib.Core.Path.{sym, ◌∙◌}
use Rattle.tables.specs.Laws.Kinds.{control_made}
use Rattle.membership.specs.Laws.Asking.{ask_unknown, ask_judged}
use Rattle.membership.proofs.member.ask.Goals as goal

pub returns-then-t-control : goal.returns-then-t-control
returns-then-t-control c =
    let a = c.args in
    sym (ask_unknown c.requires a.control a.contents.now c.if-t-control.true)

pub returns : goal.returns
returns c =
    let a = c.args in
    let made = control_made c.requires.machines a.control c.if-t-control.false c.new.ensures in
    let root = rw made at c.root_of-start.ensures.is in
    c.judge.ensures ∙ sym (ask_judged c.requires a.control a.contents.now c.if-t-control.false root)
