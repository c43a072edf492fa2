-- Field 1: the machines, their states and starting states.
use Rattle.std.specs.Prelude.{ℕ, zero, suc, ◌+◌, ◌-◌, ◌*◌, Bool, cond, List, get_or, set, replicate, ltb, leb}
use Rattle.tables.specs.Limits.{most_machines, most_states, most_controls}
use Rattle.numbers.specs.Part.{Part, got, provided, and_then}
use Rattle.numbers.specs.Number.{read_within, read_below}
use Rattle.tables.specs.declared.tables.Machines.{Machines}
use Rattle.numbers.specs.Refusals.{passes_limit}

-- how many states a machine has: with those before it the product passes no limit
unfoldable pub read_factor : List ℕ → ℕ → ℕ → Part ℕ
read_factor s at product =
    and_then (read_within s at 1 most_states) (λ v next. provided (leb (product * v) most_controls) passes_limit at (got v next))

-- the states of the machines from number i on, and the product
unfoldable pub read_sizes : List ℕ → ℕ → ℕ → ℕ → ℕ → List ℕ → Part (ℕ × List ℕ)
read_sizes s at product zero i sizes = got (product, sizes) at
read_sizes s at product (suc left) i sizes =
    and_then (read_factor s at product) (λ v next. read_sizes s next (product * v) left (i + 1) (set sizes i v))

-- the starting states of the machines from number i on
unfoldable pub read_starts : List ℕ → ℕ → List ℕ → ℕ → ℕ → List ℕ → Part (List ℕ)
read_starts s at sizes zero i starts = got starts at
read_starts s at sizes (suc left) i starts =
    and_then (read_below s at (get_or sizes i 0)) (λ v next. read_starts s next sizes left (i + 1) (set starts i v))

-- both, for machines of this count
unfoldable pub counted_machines : List ℕ → ℕ → ℕ → Part Machines
counted_machines s at count =
    and_then (read_sizes s at 1 count 0 (replicate most_machines 0)) (λ sized p₁.
    and_then (read_starts s p₁ sized.1 count 0 (replicate most_machines 0)) (λ starts p₂.
    got (record { count = count; product = sized.0; states = sized.1; starts = starts }) p₂))

-- THE FIRST NUMBER of a file (document 02, change 8): above the most machines, the file says what waits at the start, and has that many machines
-- less the most
abbrev pub most_first : ℕ
most_first = most_machines + most_machines

abbrev pub resumes_by : ℕ → Bool
resumes_by first = ltb most_machines first

abbrev pub machines_by : ℕ → ℕ
machines_by first = cond (resumes_by first) (first - most_machines) first

unfoldable pub read_machines : List ℕ → ℕ → Part (Bool × Machines)
read_machines s at =
    and_then (read_within s at 1 most_first) (λ first p₁.
    and_then (counted_machines s p₁ (machines_by first)) (λ m p₂.
    got (resumes_by first, m) p₂))
