use Rattle.capi.specs.Laws.{check_unheard, check_told}
use Rattle.capi.proofs.calls.swarmbanner_check.Goals as goal

pub returns-then-reply-lt-REPLY_LEAST : goal.returns-then-reply-lt-REPLY_LEAST
returns-then-reply-lt-REPLY_LEAST c = check_unheard c.args.file.now c.args.seen.now c.args.queue.now c.args.contents.now c.args.reply.now c.if-reply-lt-REPLY_LEAST.true

pub returns : goal.returns
returns c = check_told c.args.file.now c.args.seen.now c.args.queue.now c.args.contents.now c.args.reply.now c.if-reply-lt-REPLY_LEAST.false c.check-verdict.result c.check-verdict.ensures.checks c.tell_verdict.ensures c.put_told.ensures
