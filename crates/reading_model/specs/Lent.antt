-- What was read, as a promise names it: where tables are lent, and where two parts are read together.
use Rattle.std.specs.Prelude.{ℕ, List}
use Rattle.tables.specs.declared.tables.Machines.{Machines}
use Rattle.tables.specs.declared.tables.Queues.{Queues}
use Rattle.tables.specs.declared.tables.Transitions.{Transitions}
use Rattle.tables.specs.declared.tables.ModelTables.{ModelTables}

-- the transitions: so many rows of the table
abbrev pub lent_transitions : ℕ → List ℕ → Transitions
lent_transitions count rows = record { count = count; rows = rows }

abbrev pub lent_model : Machines → Queues → ℕ → List ℕ → ModelTables
lent_model m q count rows = record { machines = m; queues = q; transitions = lent_transitions count rows }

-- what waits at the start: how many messages in each queue, and these
abbrev pub lent_contents : List ℕ → List ℕ → List ℕ × List ℕ
lent_contents lengths contents = (lengths, contents)
