-- The tables of a file one after the other, each over its whole length.
use Rattle.std.specs.Prelude.{ℕ, ◌+◌, ◌*◌, List, [], ◌∷◌, ◌++◌}
use Rattle.numbers.specs.Put.{four}
use Rattle.tables.specs.Limits.{most_machines, most_controls, most_queues, most_pool, most_bad}
use Rattle.tables.specs.Rows.{rows_length}
use Rattle.tables.specs.Pool.{pool_arcs}
use Rattle.tables.specs.Starting.{starting_length}
use Rattle.tables.specs.declared.tables.Tables.{Tables}

-- machines, queues, messages in all, transitions, pool states, bad entries
abbrev pub counts_of : Tables → List ℕ
counts_of T =
    T.machines.count ∷ T.queues.count ∷ T.queues.sum ∷ T.transitions.count ∷ T.pool.count ∷ T.bad.count ∷ []

-- the counts; then for each machine its states and its starting state, for each queue its messages
abbrev pub small : Tables → List ℕ
small T = four (counts_of T) T.machines.states T.machines.starts T.queues.messages

-- how many messages each queue starts with, and these
abbrev pub starting : Tables → List ℕ
starting T = T.queues.lengths ++ T.queues.contents

-- transitions, final marks, arcs, roots
abbrev pub large : Tables → List ℕ
large T = four T.transitions.rows T.pool.finals T.pool.arcs T.map.roots

-- and bad entries
abbrev pub flat : Tables → List ℕ
flat T = ((small T ++ starting T) ++ large T) ++ T.bad.rows

-- so many bytes
abbrev pub counts_long : ℕ
counts_long = 6

abbrev pub small_long : ℕ
small_long = counts_long + 2 * most_machines + most_queues

abbrev pub starting_long : ℕ
starting_long = most_queues + starting_length

abbrev pub large_long : ℕ
large_long = rows_length + most_pool + pool_arcs + most_controls

abbrev pub tables_least : ℕ
tables_least = small_long + starting_long + large_long + most_bad * 2
