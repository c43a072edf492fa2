-- The states of the diagram for an automaton: the start, which is 0, and the sets of occurrences that words end on, each by its shortest,
-- lowest word.
use Rattle.std.specs.Prelude.{cond, List, [], ◌∷◌, map, ℕ, ◌+◌, eqb}
use Rattle.std.specs.Prelude.{Option as Place, Some, None}
use Rattle.std.proofs.Math.Option.{Option, none, some}
use Rattle.theory_exploration.specs.Explore.{explore}
use Rattle.tables.specs.Limits.{most_messages, most_pool}
use Rattle.theory_occurrences.specs.Sets.{meet, gather, marked}

-- what may come next: at the start what may begin a word, at a set what may follow one of its occurrences
abbrev pub next_of : ℕ → List ℕ → ℕ → ℕ
next_of first F x = cond (eqb x 0) first (gather x F)

-- those of a message among what may come next, if there are any
abbrev pub set_for : ℕ → List ℕ → ℕ → Option ℕ
set_for z L m = cond (eqb (meet z (marked m L)) 0) none (some (meet z (marked m L)))

-- THE STATES, and more than a diagram may have where there are more
abbrev pub states_from : ℕ → List ℕ → List ℕ → List ℕ
states_from first F L =
    map (λ e. e.at) (explore most_messages (λ x. set_for (next_of first F x) L) eqb (0 ∷ []) most_pool)

-- 0 where the set is none of them, else 1 plus its place, counted from i on
abbrev pub place_from : ℕ → List ℕ → ℕ → ℕ
place_from i [] y = 0
place_from i (x ∷ N) y = cond (eqb x y) (i + 1) (place_from (i + 1) N y)

-- the place of a set that is one of them, as it is counted there
abbrev pub said_place : Place ℕ → ℕ
said_place None = 0
said_place (Some i) = i + 1
