use Rattle.std.proofs.Math.Path.{ap₂}
use Rattle.reading_file.specs.File.{empty}
use Rattle.vectors_tables.proofs.empty.empty_tables.Goals as goal

pub returns : goal.returns
returns c =
    ap₂
    (λ m q. record { machines = m; queues = q; transitions = empty.transitions; pool = empty.pool; map = empty.map; bad = empty.bad })
    c.empty_machines.ensures c.empty_queues.ensures
