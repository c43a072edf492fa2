use mathlib.Core.Path.{refl}
use native.Mathlib.Omega.{arith}
use Rattle.replaying_queues.specs.Laws.Words.{word_next, word_end, word_one, put_begin, put_one, put_next, put_end}
use Rattle.replaying_queues.proofs.ring.QueueRing.put.Goals as goal

pub returns-then-word-eq1 : goal.returns-then-word-eq1
returns-then-word-eq1 c = put_one _ _ _ (word_one _ c.if-word-eq1.true)

pub loop-i-init : goal.loop-i-init
loop-i-init c = put_begin _ _ _ refl

pub loop-i-preserved : goal.loop-i-preserved
loop-i-preserved c = put_next c.loop-i.invariant (word_next _ c.loop-i-test.true) (omega arith)

pub returns : goal.returns
returns c = put_end c.loop-i.invariant (word_end _ c.loop-i-test.false)
