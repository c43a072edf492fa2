use Rattle.capi.specs.ExpressionLaws.{expression_short, expression_unheard, expression_told}
use Rattle.expression.specs.Said.{drawn}
use Rattle.capi.proofs.calls.swarmbanner_expression.Goals as goal

pub returns-then-pool-lt-POOL_LEAST : goal.returns-then-pool-lt-POOL_LEAST
returns-then-pool-lt-POOL_LEAST c = expression_short c.args.text.now c.args.pool.now c.args.reply.now c.if-pool-lt-POOL_LEAST.true

pub returns-then-reply-lt-REPLY_LEAST : goal.returns-then-reply-lt-REPLY_LEAST
returns-then-reply-lt-REPLY_LEAST c = expression_unheard c.args.text.now c.args.pool.now c.args.reply.now c.if-reply-lt-REPLY_LEAST.true

pub returns : goal.returns
returns c = expression_told c.args.text.now c.args.pool.now c.args.reply.now c.if-pool-lt-POOL_LEAST.false c.if-reply-lt-REPLY_LEAST.false (drawn c.expression_into-root.result c.expression_into-root.new.pool) c.expression_into-root.ensures.draws c.put_drawn.ensures c.tell_drawn.ensures c.put_told.ensures
