-- WHAT HOLDS OF TABLES that a file was read into (document 01, "The session file"): each table is valid by itself, and no word accepted from a root is
-- out of order. `Laws.Valid.valid` is the theorem.
use Rattle.tables.specs.Valid.{MachinesValid, QueuesValid, TransitionsValid, PoolValid, MapValid, BadValid}
use Rattle.tables.specs.declared.tables.Tables.{Tables}
use Rattle.reading_order.specs.Order.{Disordered}
use Rattle.reading_file.specs.File.{set_tables}

pub record Valid (T : Tables) : Type 0 where
  pub machines : MachinesValid T.machines
  pub queues : QueuesValid T.queues
  pub transitions : TransitionsValid T.machines T.queues T.transitions
  pub pool : PoolValid T.queues.sum T.pool
  pub map : MapValid T.machines.product T.pool.count T.map
  pub bad : BadValid T.machines.product T.pool.count T.bad
  pub ordered : Disordered T.queues T.pool (set_tables T) → ⊥
