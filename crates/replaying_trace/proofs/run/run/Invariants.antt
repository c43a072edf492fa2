use Prim.Native.Nat.{◌-◌}
use lib.ListN.{length}
use Rattle.replaying_trace.specs.Tables.{view_without_bad}
use Rattle.replaying_trace.specs.Run.{state, opening, Reached}
use Rattle.replaying_trace.proofs.run.run.Given as goal

abbrev pub invariant-steps : goal.invariant-steps
invariant-steps l = Reached (view_without_bad l.t) l.trace (opening l.fn.r l.fn.memory) (state l.r l.memory l.p)

abbrev pub decreases-steps : goal.decreases-steps
decreases-steps l = length l.trace - l.p.at
