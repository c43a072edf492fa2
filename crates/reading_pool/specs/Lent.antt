-- What was read where final marks and arcs went into lent tables.
use Rattle.std.specs.Prelude.{ℕ, List}
use Rattle.tables.specs.declared.tables.Pool.{Pool}

abbrev pub lent_pool : ℕ → List ℕ → List ℕ → Pool
lent_pool count finals arcs = record { count = count; finals = finals; arcs = arcs }
