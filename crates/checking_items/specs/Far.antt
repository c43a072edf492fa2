-- How far the contents after a step are followed.
use Rattle.std.specs.Prelude.{ℕ, ◌≡◌, List, take}
use Rattle.tables.specs.declared.tables.Tables.{Tables}
use Rattle.theory_model.specs.Judge.{far_after}
use Rattle.theory_files.specs.Tables.{session_of, transition_at}

-- the number is the model's
pub record FarFound (T : Tables) (c row : ℕ) (contents : List ℕ) (shown far : ℕ) : Type 0 where
  pub is : far ≡ far_after (session_of T) c (transition_at T.transitions.rows row) (take shown contents)
