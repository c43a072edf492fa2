-- The pool of diagrams that the tables of field 4 stand for.
use Rattle.std.specs.Prelude.{ℕ, true, false, List, ltb}
use Rattle.std.proofs.Math.Option.{Option, none, some}
use Rattle.tables.specs.Limits.{most_messages}
use Rattle.tables.specs.Pool.{arc_at}
use Rattle.tables.specs.Lookup.{final_at}
use Rattle.tables.specs.declared.tables.Pool as Declared
use Rattle.theory_model.specs.Diagram.{Pool}

-- a state's entries of the table of arcs are for the messages below most_messages
abbrev pub arc_of : List ℕ → ℕ → ℕ → Option ℕ
arc_of arcs s m = elim (ltb m most_messages) [ true ↦ arc_at arcs s m | false ↦ none ]

abbrev pub pool_of : Declared.Pool → Pool
pool_of P = record { states = P.count; final = λ s. final_at P.finals (some s); arc = arc_of P.arcs }
