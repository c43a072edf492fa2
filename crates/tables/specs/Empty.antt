-- The tables of no model: all entries 0.
use Rattle.std.specs.Prelude.{replicate}
use Rattle.tables.specs.Limits.{most_machines, most_queues}
use Rattle.tables.specs.Rows.{rows_length}
use Rattle.tables.specs.Starting.{starting_length}
use Rattle.tables.specs.declared.tables.Machines.{Machines}
use Rattle.tables.specs.declared.tables.Queues.{Queues}
use Rattle.tables.specs.declared.tables.ModelTables.{ModelTables}

abbrev pub empty_machines : Machines
empty_machines = record { count = 0; product = 0; states = replicate most_machines 0; starts = replicate most_machines 0 }

abbrev pub empty_queues : Queues
empty_queues =
    record { count = 0; sum = 0; messages = replicate most_queues 0; lengths = replicate most_queues 0; contents = replicate starting_length 0 }

abbrev pub empty_model : ModelTables
empty_model =
    record {
      machines = empty_machines;
      queues = empty_queues;
      transitions = record { count = 0; rows = replicate rows_length 0 };
    }
