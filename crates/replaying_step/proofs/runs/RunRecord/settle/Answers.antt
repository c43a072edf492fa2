use mathlib.Core.Path.{refl}
use Rattle.replaying_step.proofs.runs.RunRecord.settle.Goals as goal

pub returns : goal.returns
returns c = record { lent = refl; memory = rw c.wide.ensures.same at c.settle_queues.ensures }
