-- The dense table of arcs: state · 32 + message holds 0 for none, else 1 plus the target.
use Rattle.std.specs.Prelude.{cond, ℕ, ◌+◌, ◌-◌, ◌*◌, List, get_or, eqb}
use Rattle.std.proofs.Math.Option.{Option, none, some}
use Rattle.tables.specs.Limits.{most_pool, most_messages}

-- entries of the table of arcs
abbrev pub pool_arcs : ℕ
pool_arcs = most_pool * most_messages

-- what the entry for message m says, of the state whose arcs begin at this row: where the arc leads; a missing arc has nowhere to go
abbrev pub arc_from : List ℕ → ℕ → ℕ → Option ℕ
arc_from arcs row m = cond (eqb (get_or arcs (row + m) 0) 0) none (some (get_or arcs (row + m) 0 - 1))

-- where the arc of state s for message m leads
abbrev pub arc_at : List ℕ → ℕ → ℕ → Option ℕ
arc_at arcs s m = arc_from arcs (s * most_messages) m
