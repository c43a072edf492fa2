use Rattle.std.proofs.lemmas.Result.{err_from_is_err_and}
use mathlib.Core.Path.{refl}
use Rattle.replaying_trace.specs.Laws.Turn.{stepped_outside, stepped_end, stepped_unread, stepped_taken, stepped_untaken, stepped_full, number_asked}
use Rattle.replaying_trace.proofs.progress.Progress.step.Goals as goal

pub returns-in_err-locate : goal.returns-in_err-locate
returns-in_err-locate c =
    let p = err_from_is_err_and c.from_residual.result c.from_residual.ensures.1 in
    rw (p.1, p.2) (stepped_outside _ _ _ c.requires c.in_err-locate.ensures)

pub returns-then-trace-self : goal.returns-then-trace-self
returns-then-trace-self c = stepped_end _ _ _ c.requires c.in_ok-locate.ensures c.if-trace-self.true

pub returns-in_err-i : goal.returns-in_err-i
returns-in_err-i c =
    let p = err_from_is_err_and c.from_residual-in_err-i.result c.from_residual-in_err-i.ensures.1 in
    let read = rw (c.new-number.ensures.0, c.new-number.ensures.1, c.wide.ensures.same) at c.in_err-i.ensures.read in
    rw (p.1, p.2) (stepped_unread _ _ _ c.requires c.in_ok-locate.ensures c.if-trace-self.false read)

pub take-requires : goal.take-requires
take-requires c =
    let read = rw (c.new-number.ensures.0, c.new-number.ensures.1, c.wide.ensures.same) at c.in_ok-i.ensures.read in
    rw c.wide-2.ensures.same (number_asked _ _ _ c.requires c.in_ok-locate.ensures c.if-trace-self.false read)

pub returns-in-Ok : goal.returns-in-Ok
returns-in-Ok c =
    let read = rw (c.new-number.ensures.0, c.new-number.ensures.1, c.wide.ensures.same) at c.in_ok-i.ensures.read in
    stepped_taken _ _ _ c.requires c.in_ok-locate.ensures c.if-trace-self.false read (rw c.wide-2.ensures.same at c.in-Ok.ensures) refl refl

pub returns-in-Err-NotPossible : goal.returns-in-Err-NotPossible
returns-in-Err-NotPossible c =
    let read = rw (c.new-number.ensures.0, c.new-number.ensures.1, c.wide.ensures.same) at c.in_ok-i.ensures.read in
    stepped_untaken _ _ _ c.requires c.in_ok-locate.ensures c.if-trace-self.false read (rw (c.in-Err-NotPossible.field-0-is, c.wide-2.ensures.same) at c.in-Err-NotPossible.ensures)

pub returns-in-Err-NoRoom : goal.returns-in-Err-NoRoom
returns-in-Err-NoRoom c =
    let read = rw (c.new-number.ensures.0, c.new-number.ensures.1, c.wide.ensures.same) at c.in_ok-i.ensures.read in
    stepped_full _ _ _ c.requires c.in_ok-locate.ensures c.if-trace-self.false read (rw (c.in-Err-NoRoom.field-0-is, c.wide-2.ensures.same) at c.in-Err-NoRoom.ensures)
