use Rattle.capi.specs.Laws.{write_unheard, write_told}
use Rattle.capi.proofs.calls.swarmbanner_write.Goals as goal

pub returns-then-reply-lt-REPLY_LEAST : goal.returns-then-reply-lt-REPLY_LEAST
returns-then-reply-lt-REPLY_LEAST c = write_unheard c.args.tables.now c.args.buffer.now c.args.reply.now c.if-reply-lt-REPLY_LEAST.true

pub returns : goal.returns
returns c = write_told c.args.tables.now c.args.buffer.now c.args.reply.now c.if-reply-lt-REPLY_LEAST.false c.write_flat-written.result c.write_flat-written.ensures c.tell_written.ensures c.put_told.ensures
