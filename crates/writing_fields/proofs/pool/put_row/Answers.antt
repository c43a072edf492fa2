use native.Mathlib.Omega.{arith}
use Rattle.writing_fields.specs.Laws.Writers.{puts_then, puts_found}
use Rattle.writing_fields.proofs.pool.put_row.Goals as goal

pub returns : goal.returns
returns c = puts_then (puts_found c.count_arcs.ensures c.number.ensures) c.put_arcs.ensures (omega arith)
