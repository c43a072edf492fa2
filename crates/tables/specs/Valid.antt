-- What holds of each table that a field of a file was read into (document 01, "The session file"): every index below its count, entries
-- beyond the counts 0.
use Rattle.std.specs.Prelude.{ℕ, zero, suc, ◌+◌, ◌*◌, ◌≤◌, ◌<◌, ◌≡◌, List, length, get_or}
use Rattle.tables.specs.Limits.{most_machines, most_states, most_controls, most_queues, most_messages, most_starting, most_transitions, most_word, most_pool, most_bad}
use Rattle.tables.specs.Rows.{row_length, rows_length, word_entry, machine_at, from_at, to_at, kind_at, queue_at, length_at}
use Rattle.tables.specs.Queues.{first_message, OfQueue}
use Rattle.tables.specs.Pool.{pool_arcs}
use Rattle.tables.specs.Starting.{starting_length}
use Rattle.tables.specs.declared.tables.Machines.{Machines}
use Rattle.tables.specs.declared.tables.Queues.{Queues}
use Rattle.tables.specs.declared.tables.Transitions.{Transitions}
use Rattle.tables.specs.declared.tables.Pool.{Pool}
use Rattle.tables.specs.declared.tables.Map.{Map}
use Rattle.tables.specs.declared.tables.BadList.{BadList}
use Rattle.tables.specs.declared.tables.ModelTables.{ModelTables}
use Rattle.tables.specs.declared.tables.SetTables.{SetTables}

-- the product of the first entries, as many as are asked for
unfoldable pub product_of : List ℕ → ℕ → ℕ
product_of sizes zero = 1
product_of sizes (suc i) = product_of sizes i * get_or sizes i 0

pub record MachinesValid (m : Machines) : Type 0 where
  pub least : 1 ≤ m.count
  pub most : m.count ≤ most_machines
  pub states_long : length m.states ≡ most_machines
  pub starts_long : length m.starts ≡ most_machines
  pub states : (i : ℕ) → i < m.count → (1 ≤ get_or m.states i 0) × (get_or m.states i 0 ≤ most_states)
  pub starts : (i : ℕ) → i < m.count → get_or m.starts i 0 < get_or m.states i 0
  pub states_rest : (i : ℕ) → m.count ≤ i → get_or m.states i 0 ≡ 0
  pub starts_rest : (i : ℕ) → m.count ≤ i → get_or m.starts i 0 ≡ 0
  pub product : m.product ≡ product_of m.states m.count
  pub product_least : 1 ≤ m.product
  pub product_most : m.product ≤ most_controls

-- a word of queue p and length len, whose messages stand from entry first on, with room for so many
pub record WordValid (q : Queues) (room p len first : ℕ) (table : List ℕ) : Type 0 where
  pub most : len ≤ room
  pub word : (j : ℕ) → j < len → OfQueue q p (get_or table (first + j) 0)
  pub below : (j : ℕ) → j < len → get_or table (first + j) 0 < q.sum
  pub rest : (j : ℕ) → len ≤ j → j < room → get_or table (first + j) 0 ≡ 0

-- what waits at the start: in each queue a word of its own
pub record StartingValid (q : Queues) : Type 0 where
  pub lengths_long : length q.lengths ≡ most_queues
  pub contents_long : length q.contents ≡ starting_length
  pub words : (i : ℕ) → i < q.count → WordValid q most_starting i (get_or q.lengths i 0) (i * most_starting) q.contents
  pub lengths_rest : (i : ℕ) → q.count ≤ i → get_or q.lengths i 0 ≡ 0
  pub contents_rest : (k : ℕ) → q.count * most_starting ≤ k → get_or q.contents k 0 ≡ 0

pub record QueuesValid (q : Queues) : Type 0 where
  pub least : 1 ≤ q.count
  pub most : q.count ≤ most_queues
  pub long : length q.messages ≡ most_queues
  pub messages : (i : ℕ) → i < q.count → (1 ≤ get_or q.messages i 0) × (get_or q.messages i 0 ≤ most_messages)
  pub rest : (i : ℕ) → q.count ≤ i → get_or q.messages i 0 ≡ 0
  pub sum : q.sum ≡ first_message q.messages q.count
  pub sum_least : 1 ≤ q.sum
  pub sum_most : q.sum ≤ most_messages
  pub starting : StartingValid q

-- machine i from state a to state b, of kind k
pub record MoveValid (m : Machines) (i a b k : ℕ) : Type 0 where
  pub machine : i < m.count
  pub from : a < get_or m.states i 0
  pub to : b < get_or m.states i 0
  pub kind : k < 3

-- queue p and a word of it
pub record ActionValid (q : Queues) (p len first : ℕ) (rows : List ℕ) : Type 0 where
  pub queue : p < q.count
  pub word : WordValid q most_word p len first rows

-- the row that begins at entry row; of a local transition queue and word length are 0, and so is the word
pub record RowValid (m : Machines) (q : Queues) (rows : List ℕ) (row : ℕ) : Type 0 where
  pub move : MoveValid m (machine_at rows row) (from_at rows row) (to_at rows row) (kind_at rows row)
  pub action : ActionValid q (queue_at rows row) (length_at rows row) (word_entry row) rows
  pub local : kind_at rows row ≡ 0 → (queue_at rows row ≡ 0) × (length_at rows row ≡ 0)

pub record TransitionsValid (m : Machines) (q : Queues) (τ : Transitions) : Type 0 where
  pub most : τ.count ≤ most_transitions
  pub long : length τ.rows ≡ rows_length
  pub row : (t : ℕ) → t < τ.count → RowValid m q τ.rows (t * row_length)
  pub rest : (k : ℕ) → τ.count * row_length ≤ k → get_or τ.rows k 0 ≡ 0

-- over messages below sum: an entry of the arcs is 0 for none, or 1 plus the target
pub record PoolValid (sum : ℕ) (P : Pool) : Type 0 where
  pub least : 1 ≤ P.count
  pub most : P.count ≤ most_pool
  pub finals_long : length P.finals ≡ most_pool
  pub arcs_long : length P.arcs ≡ pool_arcs
  pub finals : (i : ℕ) → i < P.count → get_or P.finals i 0 < 2
  pub finals_rest : (i : ℕ) → P.count ≤ i → get_or P.finals i 0 ≡ 0
  pub arcs : (i m : ℕ) → i < P.count → m < most_messages → get_or P.arcs (i * most_messages + m) 0 ≤ P.count
  pub arcs_above : (i m : ℕ) → i < P.count → sum ≤ m → m < most_messages → get_or P.arcs (i * most_messages + m) 0 ≡ 0
  pub arcs_rest : (k : ℕ) → P.count * most_messages ≤ k → get_or P.arcs k 0 ≡ 0

-- of product control states, over a pool of n states: an entry is 0 for no root, or 1 plus the root
pub record MapValid (product n : ℕ) (R : Map) : Type 0 where
  pub long : length R.roots ≡ most_controls
  pub roots : (c : ℕ) → get_or R.roots c 0 ≤ n
  pub rest : (c : ℕ) → product ≤ c → get_or R.roots c 0 ≡ 0

-- of product control states, over a pool of n states
pub record BadValid (product n : ℕ) (B : BadList) : Type 0 where
  pub most : B.count ≤ most_bad
  pub long : length B.rows ≡ most_bad * 2
  pub control : (b : ℕ) → b < B.count → get_or B.rows (b * 2) 0 < product
  pub root : (b : ℕ) → b < B.count → get_or B.rows (b * 2 + 1) 0 < n
  pub rest : (k : ℕ) → B.count * 2 ≤ k → get_or B.rows k 0 ≡ 0

-- the model and the sets
pub record ModelValid (M : ModelTables) : Type 0 where
  pub machines : MachinesValid M.machines
  pub queues : QueuesValid M.queues
  pub transitions : TransitionsValid M.machines M.queues M.transitions

pub record SetsValid (product n : ℕ) (D : SetTables) : Type 0 where
  pub map : MapValid product n D.map
  pub bad : BadValid product n D.bad
