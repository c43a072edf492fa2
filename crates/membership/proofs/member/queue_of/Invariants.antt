use Prim.Native.Nat.{◌+◌}
use mathlib.Core.Path.{◌≡◌}
use lib.ListN.{take, drop}
use Rattle.theory_model.specs.Model.{queue_of}
use Rattle.membership.proofs.member.queue_of.Given as goal

abbrev pub invariant-loop-i : goal.invariant-loop-i
invariant-loop-i l =
    let ns = take l.q.count l.q.messages in
    l.i + queue_of (drop l.i ns) l.rest ≡ queue_of ns l.initial.rest
