-- What the code fills, by a table of marks, whatever the labels that it has the marks of.
use Rattle.std.specs.Prelude.{◌≡◌, List, ℕ, ◌*◌, length}
use Rattle.tables.specs.Limits.{most_messages}
use Rattle.expression_sets.specs.Marks.{Marks}
use Rattle.expression_pool.specs.Filled.{entries_from, row_entry, arc_entry}

pub record FillsRow (N : List ℕ) (z : ℕ) (M : List ℕ) (row : ℕ) (T arcs : List ℕ) : Type 0 where
  pub fills : (L : List ℕ) → Marks L M → arcs ≡ entries_from (row_entry N z L row) most_messages row T

pub record FillsArcs (N : List ℕ) (first : ℕ) (F M T arcs : List ℕ) : Type 0 where
  pub fills : (L : List ℕ) → Marks L M → arcs ≡ entries_from (arc_entry N first F L) (length N * most_messages) 0 T
