use native.Mathlib.Omega.{arith}
use Rattle.checking_walk.specs.Laws.Edges.{placed_long, placed_marked, parent_earlier}
use Rattle.checking_walk.proofs.edges.edge_to.Goals as goal

pub offset_bounds-found-k : goal.offset_bounds-found-k
offset_bounds-found-k c = omega (arith, placed_long c.requires.placed, c.requires.placed.tables.queue_long)

pub bounds-found-k : goal.bounds-found-k
bounds-found-k c = placed_long c.requires.placed

pub overflow_sub-parent : goal.overflow_sub-parent
overflow_sub-parent c =
    let mark = rw c.from-code.ensures at c.from-parent.ensures in
    omega (arith, mark, placed_marked c.requires.placed)

pub bounds-found-parent : goal.bounds-found-parent
bounds-found-parent c =
    let mark = rw c.from-code.ensures at c.from-parent.ensures in
    omega (arith, mark, parent_earlier c.requires.placed c.requires.k_nonzero, placed_long c.requires.placed)
