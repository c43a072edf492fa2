use mathlib.Core.Path.{ap}
use mathlib.Core.Bool.{Bool}
use native.Mathlib.Omega.{arith}
use Rattle.theory_format.specs.Spelled.{machines, spelled}
use Rattle.writing_fields.specs.Parts.{diagrams}
use Rattle.writing_fields.specs.Laws.Writers.{puts_then, puts_as}
use Rattle.writing_fields.proofs.file.put_fields.Goals as goal

pub returns : goal.returns
unfolding spelled diagrams
returns c =
    let whole = puts_then (puts_as (ap (λ (b : Bool). machines b c.args.t.now.head.machines) c.waits.ensures) c.put_machines.ensures)
    (puts_then {most = 526840} c.put_queues.ensures
    (puts_then {most = 395768} c.put_transitions.ensures c.put_diagrams.ensures (omega arith)) (omega arith)) (omega arith) in
    record { put = whole.put; same_reference = whole.same }
