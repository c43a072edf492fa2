-- From node to node, without a search.
use Rattle.std.specs.Prelude.{ℕ, List}
use Rattle.theory_exploration.specs.Mem.{Mem}
use Rattle.reading_order.specs.Nodes.{next_nodes}

-- one node after the other, from the first on
pub data Path (arcs counts : List ℕ) (queues : ℕ) : ℕ → ℕ → Type 0 where
  stay : {k : ℕ} → Path arcs counts queues k k
  on : {j k l : ℕ} → Mem k (next_nodes arcs counts queues j) → Path arcs counts queues k l → Path arcs counts queues j l
