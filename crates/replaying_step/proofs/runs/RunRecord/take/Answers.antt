use borrow.Author.Rules.{rules}
use Rattle.std.specs.Prelude.{◌≡◌, Err}
use Rattle.replaying_step.specs.Laws.Taking.{take_elsewhere, acts_refused, acts_yes}
use Rattle.replaying_step.proofs.runs.RunRecord.take.Goals as goal

pub returns-then-self-machine : goal.returns-then-self-machine
returns-then-self-machine c = λ f A. take_elsewhere A c.if-self-machine.true

pub returns-in_err-shift : goal.returns-in_err-shift
returns-in_err-shift c =
    let why = c.in_err-shift.field-0.0 in
    let e : c.from_residual.result ≡ Err why = search rules in
    λ f A. rw e (acts_refused A c.if-self-machine.false why c.in_err-shift.ensures)

pub returns : goal.returns
returns c = λ f A. acts_yes A c.if-self-machine.false c.in_ok-shift.ensures
