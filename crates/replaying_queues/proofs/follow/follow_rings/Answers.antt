use mathlib.Core.Path.{refl, ◌∙◌}
use mathlib.Core.Option.{some}
use native.Mathlib.Omega.{arith}
use Rattle.tables.specs.Laws.Lookup.{nowhere_true, nowhere_false, state_below}
use Rattle.following.specs.Rows.{state_at}
use Rattle.following.specs.Laws.Rows.{followed_at, followed_lost}
use Rattle.following.specs.Laws.Follow.{follow_begin, front_small, follow_front, follow_end, follow_lost}
use Rattle.following.specs.Laws.Far.{count_begin, count_front, count_lost}
use Rattle.replaying_queues.specs.Laws.Rings.{one_ring, messages_begin, messages_next, messages_end}
use Rattle.replaying_queues.specs.Laws.Led.{first_more, ring_far, leads_rootless, leads_nowhere, leads_to_lem}
use Rattle.replaying_queues.proofs.follow.follow_rings.Goals as goal

pub returns-then-is_nowhere : goal.returns-then-is_nowhere
returns-then-is_nowhere c = leads_rootless (nowhere_true _ c.is_nowhere.ensures c.if-is_nowhere.true) refl

pub state-requires : goal.state-requires
state-requires c = state_below c.requires.from_le_most_pool (nowhere_false _ c.is_nowhere.ensures c.if-is_nowhere.false)

pub row_of-row-requires : goal.row_of-row-requires
row_of-row-requires c = omega (arith, c.state.ensures, state_below c.requires.from_le_most_pool (nowhere_false _ c.is_nowhere.ensures c.if-is_nowhere.false))

pub loop-q-init : goal.loop-q-init
loop-q-init c =
    let a = c.args in
    let row = c.row_of-row.ensures.begins in
    let begin = messages_begin a.memory.now a.heads.now a.lengths.now a.count in
    (follow_begin (omega (arith, row.below)) c.requires.between begin, (count_begin refl begin, row))

pub follow-requires : goal.follow-requires
follow-requires c = let p = c.requires in
    let a = c.args in
    let inv = c.loop-q.invariant in
    let next = messages_next a.memory.now a.heads.now a.lengths.now a.count c.loop-q-test.true in
    let ring = one_ring p.rings c.loop-q-test.true in
    (omega arith, (p.arcs_small, (inv.1.1, (record { within = ring.within; placed = ring.placed }, front_small inv.0 _ _ next))))

pub waiting_in-requires : goal.waiting_in-requires
waiting_in-requires c = let R = c.requires.rings in record { count_le_most_queues = omega (arith, R.most, c.loop-q-test.true); by_index = R.held }

pub overflow_add-result : goal.overflow_add-result
overflow_add-result c =
    let R = c.requires.rings in
    let lost = followed_lost c.follow.ensures c.in-Err.is in
    omega (arith, c.waiting_in.ensures.most, ring_far c.args.arcs.now (some (state_at c.loop-q.row)) c.loop-q.q R lost.1, R.most, c.loop-q-test.true)

pub returns-in-Err : goal.returns-in-Err
returns-in-Err c =
    let a = c.args in
    let next = messages_next a.memory.now a.heads.now a.lengths.now a.count c.loop-q-test.true in
    let inv = c.loop-q.invariant in
    let lost = followed_lost c.follow.ensures c.in-Err.is in
    leads_nowhere (c.row_of-row.ensures.state ∙ c.state.ensures) _ (follow_lost (follow_front inv.0 _ _ next lost.0) refl refl) (c.waiting_in.ensures.is a.memory.now a.heads.now) (count_lost inv.1.0 _ _ next inv.1.1.below lost.0 lost.1) refl

pub loop-q-preserved : goal.loop-q-preserved
loop-q-preserved c =
    let a = c.args in
    let next = messages_next a.memory.now a.heads.now a.lengths.now a.count c.loop-q-test.true in
    let inv = c.loop-q.invariant in
    let found = followed_at c.follow.ensures c.in-Ok.is in
    (follow_front inv.0 _ _ next found.1, (count_front inv.1.0 _ _ next found.1 found.0.below (first_more a.memory.now a.heads.now a.lengths.now c.loop-q.q), found.0))

pub state_of-requires : goal.state_of-requires
state_of-requires c = c.loop-q.invariant.1.1

pub returns : goal.returns
returns c =
    let a = c.args in
    let inv = c.loop-q.invariant in
    let end = messages_end a.memory.now a.heads.now a.lengths.now a.count c.loop-q-test.false in
    leads_to_lem (c.row_of-row.ensures.state ∙ c.state.ensures) inv.1.1.below (follow_end inv.0 end refl) c.state_of.ensures
