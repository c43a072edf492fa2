use mathlib.Core.Path.{◌≡◌}
use Prim.Native.Nat.{◌+◌, ◌-◌, ◌*◌}
use lib.ListN.{get_or}
use Rattle.tables.specs.Limits.{most_starting}
use native.Mathlib.Omega.{arith}
use Rattle.replaying_queues.specs.Laws.Laying.{lay_begin, lay_end, lay_next}
use Rattle.replaying_queues.proofs.laying.lay_starting.Goals as goal

pub loop-q-init : goal.loop-q-init
loop-q-init c = lay_begin _ _ _

pub loop-q-preserved : goal.loop-q-preserved
loop-q-preserved c =
    let h = rw c.wide-q-end.ensures.same at c.loop-q-test.true in
    let at = c.loop-q.q * most_starting in
    let same : at + c.wide-n.result - at ≡ get_or c.args.queues.lengths c.loop-q.q 0 = omega (arith, c.wide-n.ensures.same) in
    lay_next c.requires h c.loop-q.invariant c.put.ensures same

pub returns : goal.returns
returns c = lay_end c.loop-q.invariant (let z : c.loop-q.q ≡ c.args.queues.count = omega (arith, c.wide-q-end.ensures.same) in z)
