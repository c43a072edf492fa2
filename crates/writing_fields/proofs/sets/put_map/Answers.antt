use native.Mathlib.Omega.{arith}
use Rattle.theory_format.specs.Spelled.{mapped}
use Rattle.writing_fields.specs.Laws.Writers.{puts_wider}
use Rattle.writing_fields.proofs.sets.put_map.Goals as goal

pub returns : goal.returns
unfolding mapped
returns c = puts_wider _ c.entries.ensures (omega (arith, c.requires.product_le_most_controls))
