-- Lists of numbers as code makes them: gathered from a function, and grown by those that are not there yet.
use Rattle.std.proofs.Math.Option.{Option, none, some}
use Rattle.std.specs.Prelude.{List, [], ◌∷◌, ◌++◌, ℕ, zero, suc, ◌+◌, eqb}
use Rattle.theory_exploration.specs.Explore.{fresh}

-- what a function gives for so many numbers from i on, in their order
unfoldable pub gather : (ℕ → Option ℕ) → ℕ → ℕ → List ℕ
gather f zero i = []
gather f (suc left) i = elim (f i) [ none ↦ gather f left (i + 1) | some k ↦ k ∷ gather f left (i + 1) ]

-- numbers that go to the end of those found, unless they are there
abbrev pub grown : List ℕ → List ℕ → List ℕ
grown L new = L ++ fresh (λ k. k) eqb L new
