use Prim.Native.Nat.{◌≤◌}
use native.Mathlib.Omega.{arith}
use mathlib.Core.Path.{ap, ◌∙◌}
use lib.ListN.{length}
use lib.Seq.{sets}
use Rattle.theory_replay.specs.Rules.{room}
use Rattle.replaying_queues.specs.Ring.{waiting}
use Rattle.replaying_queues.specs.Laws.Waiting.{waiting_length}
use Rattle.replaying_queues.specs.Laws.Settle.{gather_begin, gather_next, gather_end, laid_is}
use Rattle.replaying_queues.specs.Laws.Words.{waiting_begin, waiting_next, waiting_end}
use Rattle.replaying_queues.proofs.ring.QueueRing.settle.Goals as goal

pub loop-i-init : goal.loop-i-init
loop-i-init c = gather_begin _ (waiting_begin _ _ _ _)

pub loop-i-preserved : goal.loop-i-preserved
loop-i-preserved c = gather_next c.loop-i.invariant (waiting_next _ _ _ _ c.loop-i-test.true)

pub returns : goal.returns
returns c =
    let r = c.args.self in
    let mem = c.args.memory.now in
    let q = waiting mem r.base r.head r.count in
    let fits : length q ≤ room = omega (arith, waiting_length mem r.base r.head r.count) in
    let gathered = gather_end c.loop-i.invariant (waiting_end _ _ _ _ c.loop-i-test.false) in
    c.put_word.ensures.buffer ∙ ap (sets mem r.base) (gathered ∙ laid_is room q fits)
