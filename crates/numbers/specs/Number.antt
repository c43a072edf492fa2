-- The numbers of a session file (document 01, "The session file"): groups of seven bits, low group first.
use Rattle.std.specs.Prelude.{cond, ℕ, ◌+◌, ◌-◌, ◌*◌, List, length, get_or, ltb, leb}
use Rattle.numbers.specs.Part.{Part, got, provided, and_then}
use Rattle.numbers.specs.Refusals.{ends_early, not_shortest, out_of_range}

-- one byte below 128, or two: the first with its top bit set, the second neither 0 nor with its top bit set
unfoldable pub read_number : List ℕ → ℕ → Part ℕ
read_number s at =
    provided (ltb at (length s)) ends_early (length s)
    (cond (ltb (get_or s at 0) 128) (got (get_or s at 0) (at + 1))
    (provided (ltb (at + 1) (length s)) ends_early (length s)
    (provided (ltb 0 (get_or s (at + 1) 0)) not_shortest at
    (provided (ltb (get_or s (at + 1) 0) 128) not_shortest at
    (got (get_or s at 0 - 128 + 128 * get_or s (at + 1) 0) (at + 2))))))

-- the number that was read at a place, if it is from least to most
abbrev pub within : Part ℕ → ℕ → ℕ → ℕ → Part ℕ
within n at least most = and_then n (λ v next. provided (leb least v) out_of_range at (provided (leb v most) out_of_range at (got v next)))

-- a number from least to most
unfoldable pub read_within : List ℕ → ℕ → ℕ → ℕ → Part ℕ
read_within s at least most =
    and_then (read_number s at) (λ v next.
    provided (leb least v) out_of_range at (provided (leb v most) out_of_range at (got v next)))

-- the number that was read at a place, if it is below a limit
abbrev pub below : Part ℕ → ℕ → ℕ → Part ℕ
below n at limit = and_then n (λ v next. provided (ltb v limit) out_of_range at (got v next))

-- a number below a limit, as every index is
unfoldable pub read_below : List ℕ → ℕ → ℕ → Part ℕ
read_below s at limit = and_then (read_number s at) (λ v next. provided (ltb v limit) out_of_range at (got v next))

-- two numbers, each below a limit of its own
unfoldable pub read_two : List ℕ → ℕ → ℕ → ℕ → Part (ℕ × ℕ)
read_two s at a b = and_then (read_below s at a) (λ x p. and_then (read_below s p b) (λ y next. got (x, y) next))
