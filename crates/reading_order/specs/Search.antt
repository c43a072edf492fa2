-- How queue order is tested: all nodes are found from the roots, as `explore` finds them, and none may fail. `Laws.Order.ordered_is` says
-- that this is what `Order` says.
use Rattle.std.specs.Prelude.{ℕ, Bool, true, false, List, [], eqb}
use Rattle.std.proofs.Math.Option.{none, some}
use Rattle.tables.specs.declared.tables.Queues.{Queues}
use Rattle.tables.specs.declared.tables.Pool.{Pool}
use Rattle.tables.specs.declared.tables.SetTables.{SetTables}
use Rattle.theory_exploration.specs.Explore.{expand, first_by}
use Rattle.theory_exploration.specs.Growing.{grown}
use Rattle.reading_order.specs.Nodes.{most_nodes, next_nodes, root_nodes, bad_nodes, fails}

-- all that those found lead to; each node is taken once at most
unfoldable pub reached : List ℕ → List ℕ → ℕ → List ℕ → List ℕ
reached arcs counts queues L = expand (λ k. k) eqb (next_nodes arcs counts queues) most_nodes [] L

unfoldable pub none_fails : List ℕ → List ℕ → List ℕ → ℕ → List ℕ → Bool
none_fails arcs finals counts queues L = elim (first_by (fails finals) (reached arcs counts queues L)) [ none ↦ true | some k ↦ false ]

-- THE TEST, from the roots of so many control states and of the bad entries
unfoldable pub in_queue_order : Queues → Pool → ℕ → SetTables → Bool
in_queue_order q P controls D =
    none_fails P.arcs P.finals q.messages q.count
    (grown (grown [] (root_nodes D.map.roots controls 0)) (bad_nodes D.bad.rows D.bad.count 0))
