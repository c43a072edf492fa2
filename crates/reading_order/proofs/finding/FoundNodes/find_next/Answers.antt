use native.Mathlib.Omega.{arith}
use mathlib.Core.Path.{refl}
use native.Mathlib.Nat.{sub-zero}
use native.Mathlib.Numerals.{add-one}
use Prim.Native.Nat.{◌<◌}
use Rattle.tables.specs.Queues.{first_message}
use Rattle.tables.specs.Laws.Queues.{end_within, first_step}
use Rattle.reading_order.specs.Laws.Finding.{finding_begin, finding_part, finding_end, queues_on, queues_end}
use Rattle.reading_order.proofs.finding.FoundNodes.find_next.Goals as goal

pub loop-queue-init : goal.loop-queue-init
unfolding first_message
loop-queue-init c = (rw sub-zero (finding_begin c.args.self.now.found), refl)

pub overflow_add-end : goal.overflow_add-end
overflow_add-end c =
    let test : c.loop-queue.queue < c.args.q.now.count = omega (arith, c.loop-queue-test.true, c.wide-queue-end.ensures.same) in
    omega (arith, end_within _ c.loop-queue.invariant.1 test c.requires.queues_bound)

pub find_arcs-requires-clause-end_le_most_messages : goal.find_arcs-requires-clause-end_le_most_messages
find_arcs-requires-clause-end_le_most_messages c =
    let test : c.loop-queue.queue < c.args.q.now.count = omega (arith, c.loop-queue-test.true, c.wide-queue-end.ensures.same) in
    end_within _ c.loop-queue.invariant.1 test c.requires.queues_bound

pub loop-queue-preserved : goal.loop-queue-preserved
loop-queue-preserved c =
    let inv = c.loop-queue.invariant in
    let test : c.loop-queue.queue < c.args.q.now.count = omega (arith, c.loop-queue-test.true, c.wide-queue-end.ensures.same) in
    (finding_part inv.0 c.find_arcs.ensures (queues_on _ _ _ _ _ test c.rank_after.ensures refl), rw (add-one, first_step, inv.1))

pub returns : goal.returns
returns c = finding_end c.loop-queue.invariant.0 (queues_end _ _ _ _ _ (omega (arith, c.loop-queue-test.false, c.wide-queue-end.ensures.same)))
