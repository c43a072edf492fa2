-- Field 4: the pool of diagram states.
use Rattle.std.specs.Prelude.{ℕ, zero, suc, ◌+◌, ◌*◌, List, set, replicate, leb}
use Rattle.tables.specs.Limits.{most_pool, most_messages}
use Rattle.numbers.specs.Part.{Part, got, provided, and_then}
use Rattle.numbers.specs.Number.{read_within, read_below}
use Rattle.tables.specs.declared.tables.Pool.{Pool}
use Rattle.tables.specs.Pool.{pool_arcs}
use Rattle.numbers.specs.Refusals.{not_ascending}

-- an arc's message: below the sum, and not below the least that still ascends
unfoldable pub read_ascending : List ℕ → ℕ → ℕ → ℕ → Part ℕ
read_ascending s at sum least = and_then (read_below s at sum) (λ m next. provided (leb least m) not_ascending at (got m next))

-- an arc: its message and its target
unfoldable pub read_arc : List ℕ → ℕ → ℕ → ℕ → ℕ → Part (ℕ × ℕ)
read_arc s at n sum least =
    and_then (read_ascending s at sum least) (λ m p. and_then (read_below s p n) (λ t next. got (m, t) next))

-- the arcs that are left of a state whose entries begin at row; messages ascend strictly
unfoldable pub read_arcs : List ℕ → ℕ → ℕ → ℕ → ℕ → ℕ → ℕ → List ℕ → Part (List ℕ)
read_arcs s at n sum least row zero arcs = got arcs at
read_arcs s at n sum least row (suc left) arcs =
    and_then (read_arc s at n sum least) (λ arc next.
    read_arcs s next n sum (arc.0 + 1) row left (set arcs (row + arc.0) (arc.1 + 1)))

-- one state: its final mark, and the table with its arcs
unfoldable pub read_state : List ℕ → ℕ → ℕ → ℕ → ℕ → List ℕ → Part (ℕ × List ℕ)
read_state s at n sum row arcs =
    and_then (read_below s at 2) (λ final p₁.
    and_then (read_within s p₁ 0 sum) (λ count p₂.
    and_then (read_arcs s p₂ n sum 0 row count arcs) (λ arcs' p₃.
    got (final, arcs') p₃)))

-- the states from number i on
unfoldable pub read_states : List ℕ → ℕ → ℕ → ℕ → ℕ → ℕ → List ℕ → List ℕ → Part (List ℕ × List ℕ)
read_states s at n sum zero i finals arcs = got (finals, arcs) at
read_states s at n sum (suc left) i finals arcs =
    and_then (read_state s at n sum (i * most_messages) arcs) (λ state next.
    read_states s next n sum left (i + 1) (set finals i state.0) state.1)

unfoldable pub read_pool : List ℕ → ℕ → ℕ → Part Pool
read_pool s at sum =
    and_then (read_within s at 1 most_pool) (λ n p₁.
    and_then (read_states s p₁ n sum n 0 (replicate most_pool 0) (replicate pool_arcs 0)) (λ states p₂.
    got (record { count = n; finals = states.0; arcs = states.1 }) p₂))
