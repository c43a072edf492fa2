use Rattle.c_tables.specs.Laws.Writing.{flat_short, flat_machines, flat_parts}
use Rattle.c_tables.proofs.write.write_flat.Goals.{then-tables-lt-TABLES_LEAST-via-then-tables-lt-TABLES_LEAST, then-tables-lt-TABLES_LEAST-via-else-tables-lt-TABLES_LEAST+then-tables-gt-MOST_MACHINES}
use Rattle.c_tables.proofs.write.write_flat.Goals as goal

pub returns-then-tables-lt-TABLES_LEAST : goal.returns-then-tables-lt-TABLES_LEAST
returns-then-tables-lt-TABLES_LEAST c =
    elim c.then-tables-lt-TABLES_LEAST.branch [
      | then-tables-lt-TABLES_LEAST-via-then-tables-lt-TABLES_LEAST w ↦ flat_short _ _ w.if-tables-lt-TABLES_LEAST.true
      | then-tables-lt-TABLES_LEAST-via-else-tables-lt-TABLES_LEAST+then-tables-gt-MOST_MACHINES w ↦
          flat_machines _ _ w.if-tables-lt-TABLES_LEAST.false w.if-tables-gt-MOST_MACHINES.true
    ]

pub returns : goal.returns
returns c = flat_parts _ _ c.if-tables-lt-TABLES_LEAST.false c.head_at.ensures c.write_parts.ensures
