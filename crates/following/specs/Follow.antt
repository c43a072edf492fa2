-- Where messages lead by the table of arcs, and how many are followed.
use Rattle.std.specs.Prelude.{ℕ, ◌≤◌, ◌≡◌, List, [], ◌∷◌}
use Rattle.std.proofs.Math.Option.{Option}
use Rattle.tables.specs.Limits.{most_pool}
use Rattle.tables.specs.Kinds.{reached_of}
use Rattle.tables.specs.Lookup.{along_arc}
use Rattle.theory_model.specs.Diagram.{one_more}

-- one after the other
unfoldable pub follow_arcs : List ℕ → Option ℕ → List ℕ → Option ℕ
follow_arcs arcs x [] = x
follow_arcs arcs x (m ∷ u) = follow_arcs arcs (along_arc arcs x m) u

-- how far: one message more for each that leads somewhere
unfoldable pub far_arcs : List ℕ → Option ℕ → List ℕ → ℕ
far_arcs arcs x [] = 0
far_arcs arcs x (m ∷ u) = one_more (along_arc arcs x m) (far_arcs arcs (along_arc arcs x m) u)

-- the number r stands for where a word leads from t
pub record FollowsTo (arcs : List ℕ) (t : ℕ) (u : List ℕ) (r : ℕ) : Type 0 where
  pub is : reached_of r ≡ follow_arcs arcs (reached_of t) u
  pub most : r ≤ most_pool
