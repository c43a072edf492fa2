use Rattle.std.proofs.Common.{refl}
use Rattle.streams.specs.Laws.Lent.{filling_more, filling_done}
use Rattle.streams.proofs.lent.fill.Goals as goal

pub loop-byte-preserved : goal.loop-byte-preserved
loop-byte-preserved c = filling_more c.loop-byte.invariant c.loop-byte-test.true refl

pub returns : goal.returns
returns c = filling_done c.loop-byte.invariant c.loop-byte-test.false
