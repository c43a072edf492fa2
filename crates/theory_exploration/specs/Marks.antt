-- Marks in the form that code has: a table with an entry for each number, 0 where it is not marked, and a list of the numbers marked.
use Rattle.std.specs.Prelude.{Bool, true, false, List, [], ◌∷◌, ℕ, suc, eqb}
use Rattle.theory_exploration.specs.Explore.{seen}

-- is the number in the list?
abbrev pub mem : ℕ → List ℕ → Bool
mem x l = seen (λ k. k) eqb l x

-- how many entries are not 0
abbrev pub count : List ℕ → ℕ
count [] = 0
count (x ∷ l) = elim (eqb x 0) [ true ↦ count l | false ↦ suc (count l) ]
