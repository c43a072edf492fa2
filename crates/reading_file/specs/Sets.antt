-- Fields 5 and 6, the sets: the root of each control state, and the bad entries. They are read from the number of control states and
-- the number of pool states alone.
use Rattle.std.specs.Prelude.{ℕ, List}
use Rattle.numbers.specs.Part.{Part, got, and_then}
use Rattle.reading_file.specs.Map.{read_map}
use Rattle.reading_file.specs.Bad.{read_bad}
use Rattle.tables.specs.declared.tables.SetTables.{SetTables}

unfoldable pub read_sets : List ℕ → ℕ → ℕ → ℕ → Part SetTables
read_sets s at product n =
    and_then (read_map s at product n) (λ R p₁.
    and_then (read_bad s p₁ product n) (λ B p₂.
    got (record { map = R; bad = B }) p₂))
