use Rattle.std.proofs.Common.{arith}
use Rattle.checking_line.specs.Laws.Put.{left_message, left_messages}
use Rattle.checking_line.proofs.put.put_messages.Goals as goal

pub loop-message-preserved : goal.loop-message-preserved
loop-message-preserved c = (
  left_message _ c.loop-message-test.true c.loop-message.invariant.0 c.from.ensures (omega (arith, c.from.ensures, c.type_inv.messages c.loop-message.message-index)) c.put_spaced-next.ensures,
  omega (arith, c.put_spaced-next.ensures.within, c.loop-message.invariant.1, c.loop-message-test.true),
)

pub returns : goal.returns
returns c = left_messages _ _ c.loop-message-test.false (omega (arith, c.loop-message.invariant.1)) c.loop-message.invariant.0
