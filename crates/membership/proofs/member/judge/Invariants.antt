use Prim.Native.Nat.{◌≤◌}
use Rattle.tables.specs.Limits.{most_pool}
use Rattle.tables.specs.Kinds.{reached_of}
use Rattle.membership.specs.Laws.Judging.{Judging}
use Rattle.membership.proofs.member.judge.Given as goal

abbrev pub invariant-loop-i : goal.invariant-loop-i
invariant-loop-i l =
    Judging l.t.head.queues l.t.finals.now l.t.arcs.now l.contents (reached_of l.initial.at.0) l.i l.queue l.far (reached_of l.at.0) × (l.at.0 ≤ most_pool)
