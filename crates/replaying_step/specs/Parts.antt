-- What a replay asks of tables in parts, a head and the large ones: model, pool and map. It reads no bad entries.
use Rattle.std.specs.Prelude.{ℕ, Bool, List}
use Rattle.tables.specs.Lookup.{root_of}
use Rattle.tables.specs.declared.tables.Transitions.{Transitions}
use Rattle.tables.specs.declared.tables.Pool.{Pool}
use Rattle.theory_model.specs.Model.{Model, Configuration}
use Rattle.theory_model.specs.Diagram.{accepts, how_far, word}
use Rattle.theory_tables.specs.Pool.{pool_of}
use Rattle.theory_files.specs.Tables.{model_of}
use Rattle.tables.specs.declared.head.Head.{Head}

abbrev pub transitions_of : Head → List ℕ → Transitions
transitions_of h rows = record { count = h.transitions; rows = rows }

abbrev pub pool_in : Head → List ℕ → List ℕ → Pool
pool_in h finals arcs = record { count = h.states; finals = finals; arcs = arcs }

-- the model, whether a configuration is inside the map, and how far its contents are followed: what `session_of` says of the tables
abbrev pub model_in : Head → List ℕ → Model
model_in h rows = model_of h.machines h.queues (transitions_of h rows)

abbrev pub inside_of : Head → List ℕ → List ℕ → List ℕ → Configuration → Bool
inside_of h finals arcs roots γ = accepts (pool_of (pool_in h finals arcs)) (root_of roots γ.control) (word γ.queues)

abbrev pub far_of : Head → List ℕ → List ℕ → List ℕ → Configuration → ℕ
far_of h finals arcs roots γ = how_far (pool_of (pool_in h finals arcs)) (root_of roots γ.control) (word γ.queues)
