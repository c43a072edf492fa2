use mathlib.Core.Path.{◌≡◌, ap, ◌∙◌}
use lib.ListN.{length}
use native.Mathlib.Omega.{arith}
use Rattle.replaying_queues.specs.Ring.{rings}
use Rattle.replaying_queues.specs.Laid.{memory_after}
use Rattle.replaying_queues.specs.Laws.Rings.{one_ring, ring_as}
use Rattle.replaying_queues.specs.Laws.Settle.{settled_long, settle_begin, settle_next}
use Rattle.replaying_queues.proofs.settle.settle_queues.Goals as goal

pub loop-q-init : goal.loop-q-init
loop-q-init c = settle_begin c.requires

pub settle-requires : goal.settle-requires
settle-requires c =
    let r = c.requires in
    rw c.of.ensures (ring_as (one_ring r c.loop-q-test.true) (ap length c.loop-q.invariant ∙ settled_long r (omega (arith, c.loop-q-test.true))))

pub loop-q-preserved : goal.loop-q-preserved
loop-q-preserved c = settle_next c.requires c.loop-q-test.true c.loop-q.invariant (rw c.of.ensures at c.settle.ensures)

pub returns : goal.returns
returns c =
    let a = c.args in
    let all : c.loop-q.q ≡ a.count = omega arith in
    c.loop-q.invariant ∙ ap (λ q. memory_after (rings a.memory.now a.heads.now a.lengths.now q) a.memory.now) all
