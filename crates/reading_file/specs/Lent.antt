-- The reading where rows, final marks and arcs went into lent tables.
use Rattle.std.specs.Prelude.{ℕ, ◌≡◌, List, Result, Ok, Err, replicate}
use Rattle.numbers.specs.declared.refusal.Refusal.{Refusal}
use Rattle.tables.specs.Limits.{most_pool}
use Rattle.tables.specs.Rows.{rows_length}
use Rattle.tables.specs.Pool.{pool_arcs}
use Rattle.tables.specs.Head.{tables_of}
use Rattle.tables.specs.declared.head.Head.{Head}
use Rattle.tables.specs.declared.tables.SetTables.{SetTables}
use Rattle.tables.specs.declared.tables.Tables.{Tables}
use Rattle.reading_file.specs.declared.reading.HeadRead.{HeadRead}

-- WHAT IS ASKED of the lent tables: all entries are 0
abbrev pub Blank : List ℕ → List ℕ → List ℕ → Type 0
Blank rows finals arcs = (rows ≡ replicate rows_length 0) × ((finals ≡ replicate most_pool 0) × (arcs ≡ replicate pool_arcs 0))

-- the tables of the three lent tables, the sets and a head
abbrev pub headed : List ℕ → List ℕ → List ℕ → SetTables → Head → Tables
headed rows finals arcs D h = tables_of h rows finals arcs D.map.roots D.bad.rows

-- the tables of a head and the three lent tables: rows, final marks, arcs
abbrev pub lent_tables : List ℕ → List ℕ → List ℕ → HeadRead → Tables
lent_tables rows finals arcs h = headed rows finals arcs h.sets h.head

-- the reading into the three lent tables
abbrev pub lent_reading : Result HeadRead Refusal → List ℕ → List ℕ → List ℕ → Result Tables Refusal
lent_reading (Ok h) rows finals arcs = Ok (lent_tables rows finals arcs h)
lent_reading (Err why) rows finals arcs = Err why
