use mathlib.Core.Path.{refl}
use Prim.Native.Nat.{◌<◌}
use native.Mathlib.Omega.{arith}
use Rattle.theory_replay.specs.Rules.{room}
use Rattle.following.specs.Laws.Standing.{standing_first}
use Rattle.replaying_queues.specs.Laws.Words.{word_next, word_end, word_one, waiting_begin, waiting_next, asked_begin, asked_same, asked_other, asked_end, ask_one, ask_short}
use Rattle.replaying_queues.proofs.ring.QueueRing.begins.Goals as goal
use Rattle.replaying_queues.proofs.ring.QueueRing.begins.Goals.{then-memory-self, else-memory-self}

pub returns-then-self-word : goal.returns-then-self-word
returns-then-self-word c = ask_short _ _ _ _ _ c.if-self-word.true

pub returns-then-word-eq1 : goal.returns-then-word-eq1
returns-then-word-eq1 c =
    let r = c.args.self in
    ask_one (word_one _ c.if-word-eq1.true) (standing_first room c.args.memory.now r.base r.head r.count c.requires.placed (omega (arith, c.if-self-word.false, c.if-word-eq1.true)))

pub loop-i-init : goal.loop-i-init
loop-i-init c = asked_begin refl (waiting_begin _ _ _ _)

pub returns : goal.returns
returns c = asked_end _ c.loop-i.invariant (word_end _ c.loop-i-test.false)

pub loop-i-preserved : goal.loop-i-preserved
loop-i-preserved c =
    let a = c.args in
    let r = a.self in
    let i = c.loop-i.i in
    let t = c.loop-i.invariant in
    let e = word_next a.word.now c.loop-i-test.true in
    let within : i < r.count = omega (arith, c.loop-i-test.true, c.if-self-word.false) in
    let f = waiting_next a.memory.now r.base r.head r.count within in
    elim c.if-memory-self.branch [
      | then-memory-self other ↦ asked_other e f _ t other.if-memory-self.true other.same-is
      | else-memory-self same ↦ asked_same e f t same.if-memory-self.false same.same-is
    ]
