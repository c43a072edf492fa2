use Rattle.capi.specs.Laws.{member_unheard, member_told}
use Rattle.capi.proofs.calls.swarmbanner_member.Goals as goal

pub returns-then-reply-lt-REPLY_LEAST : goal.returns-then-reply-lt-REPLY_LEAST
returns-then-reply-lt-REPLY_LEAST c = member_unheard c.args.file.now c.args.control c.args.contents.now c.args.reply.now c.if-reply-lt-REPLY_LEAST.true

pub returns : goal.returns
returns c = member_told c.args.file.now c.args.control c.args.contents.now c.args.reply.now c.if-reply-lt-REPLY_LEAST.false c.member-m.result c.member-m.ensures c.tell_member.ensures c.put_told.ensures
