-- The graph that is searched for words out of order. A node is a state of the pool and a rank: the queue of the message that led there, 0 at a
-- root; or wrong, once a message of an earlier queue came after one of a later queue.
use Rattle.std.specs.Prelude.{ℕ, zero, suc, ◌+◌, ◌*◌, ◌/◌, ◌%◌, Bool, true, false, cond, List, [], ◌++◌, get_or, ltb, eqb}
use Rattle.std.proofs.Math.Option.{some, map}
use Rattle.tables.specs.Limits.{most_queues, most_pool}
use Rattle.tables.specs.Pool.{arc_at}
use Rattle.tables.specs.Lookup.{root_of, final_at}
use Rattle.theory_exploration.specs.Growing.{gather}

-- no queue has this number, and every queue comes before it: what is wrong stays wrong
abbrev pub wrong : ℕ
wrong = most_queues

abbrev pub ranks : ℕ
ranks = wrong + 1

-- a node as a number
abbrev pub node_of : ℕ → ℕ → ℕ
node_of s r = s * ranks + r

abbrev pub most_nodes : ℕ
most_nodes = most_pool * ranks

-- the rank after a message of queue q
abbrev pub rank_after : ℕ → ℕ → ℕ
rank_after r q = cond (ltb q r) wrong q

-- where the arcs of state s lead, for so many messages from m on, with rank r
abbrev pub arc_nodes : List ℕ → ℕ → ℕ → ℕ → ℕ → List ℕ
arc_nodes arcs s r = gather (λ m. map (λ t. node_of t r) (arc_at arcs s m))

-- the same from rank r for each queue from number q on, whose first message is first
unfoldable pub queue_nodes : List ℕ → ℕ → ℕ → List ℕ → ℕ → ℕ → ℕ → List ℕ
queue_nodes arcs s r counts zero q first = []
queue_nodes arcs s r counts (suc left) q first =
    arc_nodes arcs s (rank_after r q) (get_or counts q 0) first ++ queue_nodes arcs s r counts left (q + 1) (first + get_or counts q 0)

-- what a node leads to, over so many queues
abbrev pub next_nodes : List ℕ → List ℕ → ℕ → ℕ → List ℕ
next_nodes arcs counts queues k = queue_nodes arcs (k / ranks) (k % ranks) counts queues 0 0

-- the roots of so many control states from c on
abbrev pub root_nodes : List ℕ → ℕ → ℕ → List ℕ
root_nodes roots = gather (λ c. map (λ s. node_of s 0) (root_of roots c))

-- the roots of so many bad entries from b on
abbrev pub bad_nodes : List ℕ → ℕ → ℕ → List ℕ
bad_nodes rows = gather (λ b. some (node_of (get_or rows (b * 2 + 1) 0) 0))

-- a node fails at a final state after messages in the wrong order
abbrev pub fails : List ℕ → ℕ → Bool
fails finals k = elim (eqb (k % ranks) wrong) [ true ↦ final_at finals (some (k / ranks)) | false ↦ false ]
