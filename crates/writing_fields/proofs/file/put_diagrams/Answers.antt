use native.Mathlib.Omega.{arith}
use Rattle.writing_fields.specs.Parts.{diagrams}
use Rattle.writing_fields.specs.Laws.Writers.{puts_then}
use Rattle.writing_fields.proofs.file.put_diagrams.Goals as goal

pub returns : goal.returns
unfolding diagrams
returns c = puts_then c.put_pool.ensures (puts_then {most = 1534} c.put_map.ensures c.put_bad.ensures (omega arith)) (omega arith)
