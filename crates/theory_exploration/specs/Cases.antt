-- Small cases, computed. Fuel that is not needed costs nothing.
use Rattle.std.specs.Prelude.{◌≡◌, refl, List, [], ◌∷◌, map, ℕ, zero, suc, eqb, get_or}
use Rattle.std.proofs.Math.Option.{Option, some}
use Rattle.theory_exploration.specs.Explore.{Entry, fresh, expand, rounds, starts, children_from, explore}
use Rattle.theory_exploration.specs.Search.{Found, found, sweep, search, search_from, lowest_from, trace_from, trace}

-- letter 0 goes round three nodes, letter 1 leads to node 0, and so does everything from any other node
step : ℕ → ℕ → Option ℕ
step x zero = some (get_or (1 ∷ 2 ∷ 0 ∷ []) x 0)
step x (suc m) = some 0

one_root : map (λ (e : Entry ℕ). e.word) (explore 2 step eqb (1 ∷ []) 32512) ≡ [] ∷ (0 ∷ []) ∷ (1 ∷ []) ∷ []
unfolding explore rounds expand fresh starts children_from step
one_root = refl

-- the second root was reached from the first, and the third was not: it leads nowhere new
three_roots : map (λ (e : Entry ℕ). e.root) (explore 1 step eqb (1 ∷ 0 ∷ 7 ∷ []) 32512) ≡ 0 ∷ 0 ∷ 0 ∷ 2 ∷ []
unfolding explore rounds expand fresh starts children_from step
three_roots = refl

places : List (Found ℕ)
places = record { at = 1; parent = 0 } ∷ record { at = 2; parent = 0 } ∷ record { at = 0; parent = 0 } ∷ []

searched : search_from 2 step eqb (eqb 0) 1 32512 ≡ found 2 places
unfolding search sweep step places
searched = refl

traced : trace 2 step eqb places 2 ≡ 1 ∷ []
unfolding trace_from lowest_from step places
traced = refl
