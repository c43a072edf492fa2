use Prim.Native.Nat.{◌≤◌, ◌*◌}
use mathlib.Core.Path.{◌≡◌}
use Rattle.tables.specs.Queues.{first_message}
use Rattle.tables.proofs.spans.messages_of.Given as goal

abbrev pub invariant-loop-i : goal.invariant-loop-i
invariant-loop-i l = (l.lo ≡ first_message l.counts l.i) × (l.lo ≤ 255 * l.i)
