-- Field 5: for each control state 0 for no root, or 1 plus the root.
use Rattle.std.specs.Prelude.{ℕ, zero, suc, ◌+◌, List, set, replicate}
use Rattle.tables.specs.Limits.{most_controls}
use Rattle.numbers.specs.Part.{Part, got, and_then}
use Rattle.numbers.specs.Number.{read_within}
use Rattle.tables.specs.declared.tables.Map.{Map}

-- the roots of the control states from number i on
unfoldable pub read_roots : List ℕ → ℕ → ℕ → ℕ → ℕ → List ℕ → Part (List ℕ)
read_roots s at n zero i roots = got roots at
read_roots s at n (suc left) i roots =
    and_then (read_within s at 0 n) (λ v next. read_roots s next n left (i + 1) (set roots i v))

unfoldable pub read_map : List ℕ → ℕ → ℕ → ℕ → Part Map
read_map s at product n =
    and_then (read_roots s at n product 0 (replicate most_controls 0)) (λ roots next. got (record { roots = roots }) next)
