use Rattle.std.proofs.Math.Path.{ap₂}
use Rattle.std.specs.Int.Bits.{bit_and}
use Rattle.theory_occurrences.specs.Sets.{meet}
use Rattle.expression_sets.proofs.sets.OccurrencesBitAnd.bitand.Goals as goal

pub returns : goal.returns
unfolding meet
returns c = ap₂ bit_and c.self.view_is c.rhs.view_is
