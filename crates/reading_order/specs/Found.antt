-- What the tables of the search show: the first entries of one are the nodes found, in their order; the other marks each of them by 1.
use Rattle.std.specs.Prelude.{ℕ, ◌+◌, ◌*◌, ◌≤◌, ◌<◌, ◌≡◌, not, List, [], ◌∷◌, eqb, length, get_or, take}
use Rattle.std.proofs.Math.Option.{Option, none, some, map}
use Rattle.tables.specs.Limits.{most_pool}
use Rattle.tables.specs.Pool.{arc_from}
use Rattle.theory_exploration.specs.Marks.{mem, count}
use Rattle.reading_order.specs.Nodes.{most_nodes, node_of}
use Rattle.theory_exploration.specs.Growing.{grown}

pub record Found (seen nodes : List ℕ) (n : ℕ) : Type 0 where
  pub seen_long : length seen ≡ most_nodes
  pub nodes_long : length nodes ≡ most_nodes
  -- each mark has its place, so there is room as long as an entry of seen is 0
  pub counted : n ≡ count seen
  pub known : (k : ℕ) → mem k (take n nodes) ≡ not (eqb (get_or seen k 0) 0)
  pub below : (i : ℕ) → i < n → get_or nodes i 0 < most_nodes

-- after these nodes were found, or were there
pub record Grows (seen nodes : List ℕ) (n : ℕ) (new seen' nodes' : List ℕ) (n' : ℕ) : Type 0 where
  pub holds : Found seen' nodes' n'
  pub is : take n' nodes' ≡ grown (take n nodes) new

-- the node that the arc for message m leads to, with rank r, of the state whose arcs begin at this row; and what it adds to those found
abbrev pub arc_node : List ℕ → ℕ → ℕ → ℕ → Option ℕ
arc_node arcs row r m = map (λ t. node_of t r) (arc_from arcs row m)

abbrev pub step_nodes : Option ℕ → List ℕ
step_nodes (some k) = k ∷ []
step_nodes none = []

-- WHAT IS ASKED of the roots: each is a state of the pool
pub record RootsSmall (roots : List ℕ) : Type 0 where
  pub each : (c : ℕ) → get_or roots c 0 ≤ most_pool

pub record BadSmall (rows : List ℕ) (entries : ℕ) : Type 0 where
  pub each : (b : ℕ) → b < entries → get_or rows (b * 2 + 1) 0 < most_pool
