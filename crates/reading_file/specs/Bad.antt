-- Field 6: the bad entries, each a control state and a root, which stands as it is.
use Rattle.std.specs.Prelude.{ℕ, zero, suc, ◌+◌, ◌*◌, List, set, replicate}
use Rattle.tables.specs.Limits.{most_bad}
use Rattle.numbers.specs.Part.{Part, got, and_then}
use Rattle.numbers.specs.Number.{read_within, read_two}
use Rattle.tables.specs.declared.tables.BadList.{BadList}

-- the entries from number b on: entry b has its control state at 2 · b and its root after it
unfoldable pub read_entries : List ℕ → ℕ → ℕ → ℕ → ℕ → ℕ → List ℕ → Part (List ℕ)
read_entries s at product n zero b rows = got rows at
read_entries s at product n (suc left) b rows =
    and_then (read_two s at product n) (λ entry next.
    read_entries s next product n left (b + 1) (set (set rows (b * 2) entry.0) (b * 2 + 1) entry.1))

unfoldable pub read_bad : List ℕ → ℕ → ℕ → ℕ → Part BadList
read_bad s at product n =
    and_then (read_within s at 0 most_bad) (λ count p₁.
    and_then (read_entries s p₁ product n count 0 (replicate (most_bad * 2) 0)) (λ rows p₂.
    got (record { count = count; rows = rows }) p₂))
