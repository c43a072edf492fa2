use Rattle.std.proofs.lemmas.Result.{err_from_is_err_and}
use mathlib.Core.Path.{refl}
use Rattle.reading_file.specs.Laws.Reading.{answer_read, answer_refused}
use Rattle.replaying_trace.specs.Laws.Begin.{replays_unread, replays_long, replays_short, begins_layable, begins_ready_without_bad, replays_ran_without_bad}
use Rattle.replaying_trace.proofs.run.replay.Goals as goal

pub returns-in_err-read : goal.returns-in_err-read
returns-in_err-read c =
    let p = err_from_is_err_and c.from_residual.result c.from_residual.ensures.1 in
    rw (p.1, p.2) (replays_unread _ _ _ _ (answer_refused _ _ c.in_err-read.ensures.reads _ _ refl))

pub returns-then-trace-gt-MOST_BYTES : goal.returns-then-trace-gt-MOST_BYTES
returns-then-trace-gt-MOST_BYTES c = replays_long _ _ _ _ (answer_read _ _ c.in_ok-read.ensures.reads refl).1 c.if-trace-gt-MOST_BYTES.true

pub returns-then-memory-wide : goal.returns-then-memory-wide
returns-then-memory-wide c =
    replays_short _ _ _ _ (answer_read _ _ c.in_ok-read.ensures.reads refl).1 c.if-trace-gt-MOST_BYTES.false (rw c.wide.ensures.same at c.if-memory-wide.true)

pub lay_starting-requires : goal.lay_starting-requires
lay_starting-requires c =
    begins_layable _ _ _ c.args.r.now (answer_read _ _ c.in_ok-read.ensures.reads refl).1 c.if-trace-gt-MOST_BYTES.false (rw c.wide.ensures.same at c.if-memory-wide.false)

pub run-requires : goal.run-requires
run-requires c =
    let enough = rw c.wide.ensures.same at c.if-memory-wide.false in
    rw c.starting_record.ensures (begins_ready_without_bad _ _ _ c.args.r.now (answer_read _ _ c.in_ok-read.ensures.reads refl).1 c.if-trace-gt-MOST_BYTES.false enough c.lay_starting.ensures)

pub returns : goal.returns
returns c =
    let enough = rw c.wide.ensures.same at c.if-memory-wide.false in
    replays_ran_without_bad _ _ _ c.args.r.now (answer_read _ _ c.in_ok-read.ensures.reads refl).1 c.if-trace-gt-MOST_BYTES.false enough c.lay_starting.ensures (rw c.starting_record.ensures at c.run.ensures)
