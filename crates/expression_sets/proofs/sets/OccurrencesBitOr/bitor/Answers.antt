use Rattle.std.proofs.Math.Path.{ap₂}
use Rattle.std.specs.Int.Bits.{bit_or}
use Rattle.theory_occurrences.specs.Sets.{joined}
use Rattle.expression_sets.proofs.sets.OccurrencesBitOr.bitor.Goals as goal

pub returns : goal.returns
unfolding joined
returns c = ap₂ bit_or c.self.view_is c.rhs.view_is
