use mathlib.Core.Path.{refl, sym, ◌∙◌}
use native.Mathlib.Omega.{arith}
use Rattle.tables.specs.Kinds.{reached_of}
use Rattle.tables.specs.Laws.Lookup.{arcs_small}
use Rattle.tables.specs.Laws.Kinds.{message_made}
use Rattle.membership.specs.Laws.Judging.{far_over, judging_unknown, judging_earlier, judging_on, judging_end}
use Rattle.membership.proofs.member.judge.Goals as goal

pub returns-then-q-raw : goal.returns-then-q-raw
returns-then-q-raw c =
    let a = c.args in
    let t = a.t.now in
    judging_unknown c.requires.queues_valid c.loop-i.invariant.0 c.loop-i-test.true refl c.if-q-raw.true t.head.states
    (far_over t.finals.now t.arcs.now t.head.states (reached_of a.start.0) a.contents.now)

pub returns-then-own-queue : goal.returns-then-own-queue
returns-then-own-queue c =
    let a = c.args in
    let t = a.t.now in
    let made = message_made c.requires.queues_valid c.if-q-raw.false c.wide.ensures.same c.new-m.ensures in
    judging_earlier c.requires.queues_valid c.loop-i.invariant.0 c.loop-i-test.true refl c.if-q-raw.false made c.queue_of-own.ensures c.if-own-queue.true t.head.states
    (far_over t.finals.now t.arcs.now t.head.states (reached_of a.start.0) a.contents.now)

pub along-at-requires-clause-arcs_small : goal.along-at-requires-clause-arcs_small
along-at-requires-clause-arcs_small c = arcs_small c.requires.pool_valid

pub loop-i-preserved : goal.loop-i-preserved
loop-i-preserved c =
    let made = message_made c.requires.queues_valid c.if-q-raw.false c.wide.ensures.same c.new-m.ensures in
    (judging_on c.requires.queues_valid c.loop-i.invariant.0 c.loop-i-test.true refl c.if-q-raw.false made c.queue_of-own.ensures c.if-own-queue.false c.along-at.ensures.is (omega (arith, c.followed-far.ensures)), c.along-at.ensures.most)

pub returns-then-is_final : goal.returns-then-is_final
returns-then-is_final c = judging_end c.requires.queues_valid c.loop-i.invariant.0 c.loop-i-test.false (sym c.if-is_final.true ∙ c.is_final.ensures) c.args.t.now.head.states

pub returns-else-is_final : goal.returns-else-is_final
returns-else-is_final c = judging_end c.requires.queues_valid c.loop-i.invariant.0 c.loop-i-test.false (sym c.if-is_final.false ∙ c.is_final.ensures) c.args.t.now.head.states
