-- The tables that a head and five lists stand for, and the head of tables.
use Rattle.std.specs.Prelude.{ℕ, List}
use Rattle.tables.specs.declared.tables.Tables.{Tables}
use Rattle.tables.specs.declared.head.Head.{Head}

-- THE TABLES in parts: rows of the transitions, final marks, arcs, roots, rows of the bad entries
abbrev pub tables_of : Head → List ℕ → List ℕ → List ℕ → List ℕ → List ℕ → Tables
tables_of h rows finals arcs roots entries =
    record {
      machines = h.machines;
      queues = h.queues;
      transitions = record { count = h.transitions; rows = rows };
      pool = record { count = h.states; finals = finals; arcs = arcs };
      map = record { roots = roots };
      bad = record { count = h.bad; rows = entries };
    }

-- and the head of tables
abbrev pub head_of : Tables → Head
head_of T =
    record {
      machines = T.machines;
      queues = T.queues;
      transitions = T.transitions.count;
      states = T.pool.count;
      bad = T.bad.count;
    }
