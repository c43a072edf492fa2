-- The tables that a view shows.
use Rattle.tables.specs.declared.tables.Tables.{Tables}
use Rattle.tables.specs.declared.view.TablesView.{TablesView}
use Rattle.tables.specs.Head.{tables_of}

abbrev pub viewed : TablesView → Tables
viewed t = tables_of t.head t.rows.now t.finals.now t.arcs.now t.roots.now t.entries.now
