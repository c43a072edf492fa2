use Prim.Native.Nat.{◌<◌}
use native.Mathlib.Omega.{arith}
use Rattle.theory_format.specs.Spelled.{machines}
use Rattle.writing_fields.specs.Laws.Writers.{puts_then, puts_found}
use borrow.Author.Rules.{rules}
use Rattle.writing_fields.proofs.moves.put_machines.Goals as goal

pub returns : goal.returns
unfolding machines
returns c =
    let few : c.args.m.count < 256 = search rules in
    puts_then (puts_found c.first_of.ensures c.number.ensures)
    (puts_then {most = 1020} c.entries.ensures c.entries-2.ensures (omega arith)) (omega arith)
