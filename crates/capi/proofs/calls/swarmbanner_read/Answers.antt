use Rattle.std.proofs.Common.{sym, ap, ◌∙◌, Ok}
use Rattle.reading_file.specs.Said.{said_answer}
use Rattle.reading_file.specs.File.{handed}
use Rattle.reading_file.specs.Lent.{lent_reading}
use Rattle.membership.specs.Laws.Asking.{read_valid}
use Rattle.c_replies.specs.Told.{told_answer}
use Rattle.capi.specs.Laws.{read_short, read_unheard, read_refused, read_filled}
use Rattle.capi.proofs.calls.swarmbanner_read.Goals as goal

pub returns-then-space-lt-TABLES_LEAST : goal.returns-then-space-lt-TABLES_LEAST
returns-then-space-lt-TABLES_LEAST c = read_short c.args.file.now c.args.space.now c.args.reply.now c.if-space-lt-TABLES_LEAST.true

pub returns-then-reply-lt-REPLY_LEAST : goal.returns-then-reply-lt-REPLY_LEAST
returns-then-reply-lt-REPLY_LEAST c = read_unheard c.args.file.now c.args.space.now c.args.reply.now c.if-reply-lt-REPLY_LEAST.true

pub put_flat-requires : goal.put_flat-requires
put_flat-requires c =
    let e = ap (λ r. lent_reading r c.read_into.new.rows c.read_into.new.finals c.read_into.new.arcs) c.in-Ok.is in
    record {
      valid = read_valid c.args.file.now (sym (ap said_answer e) ∙ c.read_into.ensures.reads.reply) (c.tables.ensures ∙ sym (ap handed e) ∙ c.read_into.ensures.reads.tables);
      tables_least_in_bounds = c.if-space-lt-TABLES_LEAST.false;
    }

pub returns-in-Err : goal.returns-in-Err
returns-in-Err c =
    let e = ap (λ r. lent_reading r c.read_into.new.rows c.read_into.new.finals c.read_into.new.arcs) c.in-Err.is in
    read_refused c.if-space-lt-TABLES_LEAST.false c.if-reply-lt-REPLY_LEAST.false _ c.read_into.ensures.reads (c.tell_refusal.ensures ∙ sym (ap (λ x. told_answer (said_answer x)) e)) c.put_told.ensures e

pub returns-in-Ok : goal.returns-in-Ok
returns-in-Ok c =
    let e = ap (λ r. lent_reading r c.read_into.new.rows c.read_into.new.finals c.read_into.new.arcs) c.in-Ok.is in
    read_filled c.if-space-lt-TABLES_LEAST.false c.if-reply-lt-REPLY_LEAST.false _ c.read_into.ensures.reads (c.bare.ensures ∙ sym (ap (λ x. told_answer (said_answer x)) e)) c.put_told-in-Ok.ensures (e ∙ ap Ok (sym c.tables.ensures)) c.put_flat.ensures
