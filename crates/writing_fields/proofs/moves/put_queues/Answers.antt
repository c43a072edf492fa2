use Prim.Native.Nat.{◌<◌}
use native.Mathlib.Omega.{arith}
use Rattle.theory_format.specs.Spelled.{queues}
use Rattle.writing_fields.specs.Parts.{waiting}
use Rattle.writing_fields.specs.Laws.Writers.{puts_then}
use borrow.Author.Rules.{rules}
use Rattle.writing_fields.proofs.moves.put_queues.Goals as goal

pub returns : goal.returns
unfolding queues waiting
returns c =
    let few : c.args.q.count < 256 = search rules in
    puts_then c.number.ensures (puts_then {most = 131070} c.entries.ensures c.put_waiting.ensures (omega arith)) (omega arith)
