-- By hand, so that a table that is not cleared is refused at its fact.
use mathlib.Core.Path.{refl}
use Rattle.reading_file.proofs.reading.read_into.Goals as goal

pub returns-in-Err-clause-cleared : goal.returns-in-Err-clause-cleared
returns-in-Err-clause-cleared c = (refl, (refl, refl))
