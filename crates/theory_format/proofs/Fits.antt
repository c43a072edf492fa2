-- Valid tables spell a file of at most 11,700 bytes.
-- These stand here and not in specs/ because a must-fail edit of what is spelled takes their ground away.
use Rattle.std.proofs.Common.{arith}
use Rattle.tables.specs.Starting.{waits}
use Rattle.tables.specs.declared.tables.Tables.{Tables}
use Rattle.reading_file.specs.Valid.{Valid}
use Rattle.theory_format.specs.Spelled.{spelled}
use Rattle.theory_format.specs.Laws.Fits.{Fits, fits_then, fits_machines, fits_queues, fits_transitions, fits_pool, fits_map, fits_bad}

-- THE FILE
pub fits_spelled : (T : Tables) → Valid T → Fits 11700 (spelled T)
unfolding spelled
fits_spelled T z =
    fits_then {n = 11691} (omega arith) (fits_machines (waits T.queues.lengths) z.machines)
    (fits_then {n = 11650} (omega arith) (fits_queues z.queues)
    (fits_then {n = 8832} (omega arith) (fits_transitions z.machines z.queues z.transitions)
    (fits_then {n = 449} (omega arith) (fits_pool z.queues.sum_most z.pool)
    (fits_then (omega arith) (fits_map z.machines.product_most (omega (arith, z.pool.most)) z.map)
    (fits_bad z.machines.product_most (omega (arith, z.pool.most)) z.bad)))))
