-- The table of arcs by rows: where the arcs of a state begin, which is its number times the messages.
use Rattle.std.specs.Prelude.{Result, Ok, Err, ℕ, ◌*◌, ◌/◌, ◌<◌, ◌≡◌, List}
use Rattle.std.proofs.Math.Option.{some}
use Rattle.tables.specs.Limits.{most_messages, most_pool}
use Rattle.following.specs.Follow.{FollowsTo, far_arcs}
use Rattle.following.specs.declared.messages.Lost.{Lost}

-- the state of a row, and that a row is of a state of the pool
abbrev pub state_at : ℕ → ℕ
state_at row = row / most_messages

pub record StateRow (row : ℕ) : Type 0 where
  pub is : row ≡ state_at row * most_messages
  pub below : state_at row < most_pool

-- the row of this state
pub record RowOf (s row : ℕ) : Type 0 where
  pub begins : StateRow row
  pub state : state_at row ≡ s

-- what a word says from a row on: the row of the state that it leads to, or that it leads nowhere and how far it is followed
abbrev pub followed_to : List ℕ → ℕ → List ℕ → Result ℕ Lost → Type 0
followed_to arcs row u (Ok next) = StateRow next × FollowsTo arcs (state_at row) u (state_at next)
followed_to arcs row u (Err n) = FollowsTo arcs (state_at row) u most_pool × (n.0 ≡ far_arcs arcs (some (state_at row)) u)

pub record RowFollows (arcs : List ℕ) (row : ℕ) (u : List ℕ) (r : Result ℕ Lost) : Type 0 where
  pub is : followed_to arcs row u r
