use Prim.Native.Nat.{◌-◌, ◌<◌}
use Rattle.following.specs.Rows.{state_at, StateRow}
use Rattle.following.specs.Standing.{standing}
use Rattle.following.specs.Laws.Follow.{Following}
use Rattle.following.specs.Laws.Far.{Counting}
use Rattle.following.proofs.messages.follow.Given as goal

abbrev pub invariant-loop-i : goal.invariant-loop-i
invariant-loop-i g l =
    let all = standing g.row.SIZE l.ring.table.now l.ring.base l.ring.head l.ring.count in
    let left = standing g.row.SIZE l.ring.table.now l.ring.base l.place (l.ring.count - l.i) in
    Following l.arcs (state_at l.from) all (state_at l.row) left × StateRow l.row × (l.place < g.row.SIZE) × Counting l.arcs (state_at l.from) all l.i (state_at l.row) left
