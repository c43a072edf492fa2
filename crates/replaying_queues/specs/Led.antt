-- Where what waits leads by the table of arcs, and how many messages wait.
use Rattle.std.specs.Prelude.{ℕ, ◌*◌, ◌≤◌, ◌<◌, ◌≡◌, List, length, Result, Ok, Err}
use Rattle.std.proofs.Math.Option.{none, some}
use Rattle.tables.specs.Limits.{most_pool}
use Rattle.tables.specs.Kinds.{reached_of}
use Rattle.theory_model.specs.Diagram.{word}
use Rattle.theory_replay.specs.Rules.{room}
use Rattle.following.specs.Follow.{follow_arcs, far_arcs}
use Rattle.replaying_queues.specs.Ring.{rings}
use Rattle.tables.specs.declared.kinds.DiagramState.{DiagramState}
use Rattle.following.specs.declared.messages.Lost.{Lost}

-- from t by the messages of u: to a state, or nowhere, and then how far
abbrev pub led_to : List ℕ → ℕ → List ℕ → Result DiagramState Lost → Type 0
led_to arcs t u (Ok s) = (follow_arcs arcs (reached_of t) u ≡ some s.0) × (s.0 < most_pool)
led_to arcs t u (Err l) = (follow_arcs arcs (reached_of t) u ≡ none) × (l.0 ≡ far_arcs arcs (reached_of t) u)

pub record Leads (arcs : List ℕ) (t : ℕ) (u : List ℕ) (r : Result DiagramState Lost) : Type 0 where
  pub is : led_to arcs t u r

-- so many messages wait in the first so many queues, wherever they stand
pub record Waits (lengths : List ℕ) (count n : ℕ) : Type 0 where
  pub is : (mem heads : List ℕ) → n ≡ length (word (rings mem heads lengths count))
  pub most : n ≤ count * room
