-- Queues in lent memory at the end of a replay (document 02, change 2).
use Rattle.std.specs.Prelude.{ℕ, ◌-◌, ◌*◌, List, [], ◌∷◌, ◌++◌, length, drop, replicate}
use Rattle.theory_replay.specs.Rules.{room}

-- a queue's `room` bytes hold its messages, oldest first, then 0
abbrev pub laid : List ℕ → List ℕ
laid q = q ++ replicate (room - length q) 0

unfoldable pub laid_all : List (List ℕ) → List ℕ
laid_all [] = []
laid_all (q ∷ qs) = laid q ++ laid_all qs

-- queue q from byte room · q on; memory past the last queue stays
abbrev pub memory_after : List (List ℕ) → List ℕ → List ℕ
memory_after qs mem = laid_all qs ++ drop (length qs * room) mem
