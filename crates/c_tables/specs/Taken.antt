-- THE TABLES THAT FLAT BYTES STAND FOR: each count by its place, each table a part of the bytes. The product of the machines' states does not stand there.
use Rattle.std.specs.Prelude.{ℕ, ◌+◌, ◌*◌, List, get_or, take, drop}
use Rattle.tables.specs.Limits.{most_machines, most_controls, most_queues, most_pool, most_bad}
use Rattle.tables.specs.Rows.{rows_length}
use Rattle.tables.specs.Pool.{pool_arcs}
use Rattle.tables.specs.Starting.{starting_length}
use Rattle.tables.specs.Valid.{product_of}
use Rattle.tables.specs.declared.tables.Machines.{Machines}
use Rattle.tables.specs.declared.tables.Queues.{Queues}
use Rattle.tables.specs.declared.tables.Tables.{Tables}
use Rattle.tables.specs.Head.{tables_of}
use Rattle.tables.specs.declared.head.Head.{Head}
use Rattle.c_tables.specs.Flat.{counts_long}

-- so many bytes from a place on
abbrev pub part : ℕ → ℕ → List ℕ → List ℕ
part at n f = take n (drop at f)

-- where the counts stand, in the order of `counts_of`
abbrev pub machines_place : ℕ
machines_place = 0

abbrev pub queues_place : ℕ
queues_place = 1

abbrev pub sum_place : ℕ
sum_place = 2

abbrev pub transitions_place : ℕ
transitions_place = 3

abbrev pub pool_place : ℕ
pool_place = 4

abbrev pub bad_place : ℕ
bad_place = 5

-- and where the tables begin, in the order of `flat`
abbrev pub states_place : ℕ
states_place = counts_long

abbrev pub starts_place : ℕ
starts_place = states_place + most_machines

abbrev pub messages_place : ℕ
messages_place = starts_place + most_machines

abbrev pub lengths_place : ℕ
lengths_place = messages_place + most_queues

abbrev pub contents_place : ℕ
contents_place = lengths_place + most_queues

abbrev pub rows_place : ℕ
rows_place = contents_place + starting_length

abbrev pub finals_place : ℕ
finals_place = rows_place + rows_length

abbrev pub arcs_place : ℕ
arcs_place = finals_place + most_pool

abbrev pub roots_place : ℕ
roots_place = arcs_place + pool_arcs

abbrev pub entries_place : ℕ
entries_place = roots_place + most_controls

-- what stands there
abbrev pub machines_at : List ℕ → Machines
machines_at f =
    record {
      count = get_or f machines_place 0;
      product = product_of (part states_place most_machines f) (get_or f machines_place 0);
      states = part states_place most_machines f;
      starts = part starts_place most_machines f;
    }

abbrev pub queues_at : List ℕ → Queues
queues_at f =
    record {
      count = get_or f queues_place 0;
      sum = get_or f sum_place 0;
      messages = part messages_place most_queues f;
      lengths = part lengths_place most_queues f;
      contents = part contents_place starting_length f;
    }

-- machines and queues, and the counts of what is large
abbrev pub head_at : List ℕ → Head
head_at f =
    record {
      machines = machines_at f;
      queues = queues_at f;
      transitions = get_or f transitions_place 0;
      states = get_or f pool_place 0;
      bad = get_or f bad_place 0;
    }

-- THE TABLES
unfoldable pub tables_at : List ℕ → Tables
tables_at f =
    tables_of (head_at f) (part rows_place rows_length f) (part finals_place most_pool f) (part arcs_place pool_arcs f)
    (part roots_place most_controls f) (part entries_place (most_bad * 2) f)
