use native.Mathlib.Omega.{arith}
use Rattle.theory_format.specs.Spelled.{transition}
use Rattle.writing_fields.specs.Parts.{kind}
use Rattle.writing_fields.specs.Laws.Writers.{puts_then, puts_found}
use Rattle.writing_fields.proofs.moves.put_transition.Goals as goal

pub returns : goal.returns
unfolding transition kind
returns c =
    puts_then (puts_found c.entry.ensures c.number.ensures)
    (puts_then {most = 520} (puts_found c.entry-2.ensures c.number-2.ensures)
    (puts_then {most = 518} (puts_found c.entry-3.ensures c.number-3.ensures) c.put_kind.ensures (omega arith))
    (omega arith)) (omega arith)
