-- The contents before a step, in the front of their buffer.
use Rattle.std.specs.Prelude.{ℕ, ◌≤◌, ◌≡◌, List, length, take}
use Rattle.tables.specs.Limits.{most_messages, contents_least}
use Rattle.theory_model.specs.Model.{Between}
use Rattle.theory_model.specs.Diagram.{front_of}

-- WHAT IS ASKED of contents of so many messages
pub record ContentsAt (contents : List ℕ) (shown : ℕ) : Type 0 where
  pub within : contents_least ≤ length contents
  pub most : shown ≤ contents_least
  pub messages : Between 0 most_messages (take shown contents)

-- so many messages below the cut stand at their front
pub record FrontEnds (contents : List ℕ) (shown cut n : ℕ) : Type 0 where
  pub is : n ≡ length (front_of cut (take shown contents))
