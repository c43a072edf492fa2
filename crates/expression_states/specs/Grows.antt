-- What the code's list of states shows: the first entries of a table.
use Rattle.std.specs.Prelude.{◌≡◌, cond, List, [], ◌∷◌, ℕ, ◌+◌, ◌≤◌, ◌<◌, eqb, length, take}
use Rattle.tables.specs.Limits.{most_messages, most_pool}
use Rattle.theory_exploration.specs.Growing.{gather, grown}
use Rattle.expression_sets.specs.Marks.{Marks}
use Rattle.expression_states.specs.States.{set_for, states_from}

-- a set that is not empty
abbrev pub a_state : ℕ → List ℕ
a_state x = cond (eqb x 0) [] (x ∷ [])

-- after these, of which at most so many are new, were found or were there
pub record Grows (S : List ℕ) (n most : ℕ) (new S' : List ℕ) (n' : ℕ) : Type 0 where
  pub is : take n' S' ≡ grown (take n S) new
  pub long : length S' ≡ length S
  pub within : n' ≤ n + most

-- the sets that all messages lead to are found, whatever the labels that these are the marks of
pub record AddsNext (z : ℕ) (M S : List ℕ) (n : ℕ) (S' : List ℕ) (n' : ℕ) : Type 0 where
  pub finds : (L : List ℕ) → Marks L M → Grows S n most_messages (gather (set_for z L) most_messages 0) S' n'
  pub long : length S' ≡ length S
  pub within : n' ≤ n + most_messages

-- all states, or more than a diagram may have
pub record FoundStates (first : ℕ) (F L S : List ℕ) (n : ℕ) : Type 0 where
  pub few : n ≤ most_pool → take n S ≡ states_from first F L
  pub many : most_pool < n → most_pool < length (states_from first F L)
  pub within : n ≤ length S

-- the same of the labels that these are the marks of
pub record FindsStates (first : ℕ) (F M S : List ℕ) (n : ℕ) : Type 0 where
  pub finds : (L : List ℕ) → Marks L M → FoundStates first F L S n
  pub within : n ≤ length S
