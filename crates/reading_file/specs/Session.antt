-- The tables that a session stands for.
use Rattle.tables.specs.declared.tables.Tables.{Tables}
use Rattle.tables.specs.View.{viewed}
use Rattle.reading_file.specs.declared.session.Session.{Session}

abbrev pub tables_in : Session → Tables
tables_in t = viewed t.tables
