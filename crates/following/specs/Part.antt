-- A part of a word, followed from where the parts before it led.
use Rattle.std.specs.Prelude.{ℕ, ◌≡◌, List}
use Rattle.tables.specs.Kinds.{reached_of}
use Rattle.following.specs.Follow.{far_arcs, FollowsTo}

-- from s the messages of u lead to t, and n of them are followed
pub record Goes (arcs : List ℕ) (s : ℕ) (u : List ℕ) (t n : ℕ) : Type 0 where
  pub leads : FollowsTo arcs s u t
  pub far : n ≡ far_arcs arcs (reached_of s) u
