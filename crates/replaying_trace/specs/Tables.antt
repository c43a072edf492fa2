-- The tables that a replay reads: those of the file, less its bad entries.
use Rattle.std.specs.Prelude.{ℕ, ◌*◌, List, replicate}
use Rattle.tables.specs.Limits.{most_bad}
use Rattle.tables.specs.Head.{tables_of}
use Rattle.tables.specs.View.{viewed}
use Rattle.tables.specs.declared.tables.Tables.{Tables}
use Rattle.tables.specs.declared.head.Head.{Head}
use Rattle.tables.specs.declared.view.TablesView.{TablesView}

-- a head and four large tables; the rows of the bad entries are 0
abbrev pub replay_tables : Head → List ℕ → List ℕ → List ℕ → List ℕ → Tables
replay_tables h rows finals arcs roots = tables_of h rows finals arcs roots (replicate (most_bad * 2) 0)

-- the head that counts no bad entries
abbrev pub head_without_bad : Tables → Head
head_without_bad T =
    record {
      machines = T.machines;
      queues = T.queues;
      transitions = T.transitions.count;
      states = T.pool.count;
      bad = 0;
    }

abbrev pub without_bad : Tables → Tables
without_bad T = replay_tables (head_without_bad T) T.transitions.rows T.pool.finals T.pool.arcs T.map.roots

-- of those that a view shows
abbrev pub view_without_bad : TablesView → Tables
view_without_bad v = without_bad (viewed v)
