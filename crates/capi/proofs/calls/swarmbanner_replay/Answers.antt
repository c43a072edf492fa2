use Rattle.capi.specs.Laws.{replay_short, replay_unheard, replay_told_lem}
use Rattle.capi.proofs.calls.swarmbanner_replay.Goals as goal

pub returns-then-run-lt-RECORD_LEAST : goal.returns-then-run-lt-RECORD_LEAST
returns-then-run-lt-RECORD_LEAST c = replay_short c.args.file.now c.args.trace.now c.args.memory.now c.args.run.now c.args.reply.now c.if-run-lt-RECORD_LEAST.true

pub returns-then-reply-lt-REPLY_LEAST : goal.returns-then-reply-lt-REPLY_LEAST
returns-then-reply-lt-REPLY_LEAST c = replay_unheard c.args.file.now c.args.trace.now c.args.memory.now c.args.run.now c.args.reply.now c.if-reply-lt-REPLY_LEAST.true

pub returns : goal.returns
returns c = replay_told_lem c.args.file.now c.args.trace.now c.args.memory.now c.args.run.now c.args.reply.now c.if-run-lt-RECORD_LEAST.false c.if-reply-lt-REPLY_LEAST.false c.replay-ended.result c.replay-ended.new.r c.replay-ended.ensures c.put_run.ensures c.tell_replay.ensures c.put_told.ensures
