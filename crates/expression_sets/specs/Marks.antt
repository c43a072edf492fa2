-- The table of each message's occurrences.
use Rattle.std.specs.Prelude.{◌≡◌, List, ℕ, ◌<◌, get_or}
use Rattle.tables.specs.Limits.{most_messages}
use Rattle.theory_occurrences.specs.Sets.{marked}

-- for every message the set of its occurrences, by their labels
pub record Marks (L M : List ℕ) : Type 0 where
  pub each : (m : ℕ) → m < most_messages → get_or M m 0 ≡ marked m L
