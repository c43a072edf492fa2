use Rattle.std.proofs.Common.{ap, subst}
use Rattle.reading_file.specs.Said.{said_answer}
use Rattle.reading_file.specs.File.{handed}
use Rattle.reading_file.specs.Valid.{Valid}
use Rattle.reading_file.specs.Laws.Reading.{answer_valid}
use Rattle.vectors_tables.proofs.edited.put_read.Goals as goal

pub put_flat-requires-clause-valid : goal.put_flat-requires-clause-valid
put_flat-requires-clause-valid c = subst Valid (ap handed c.in-Ok.is) (answer_valid _ _ c.read.ensures (ap said_answer c.in-Ok.is))
