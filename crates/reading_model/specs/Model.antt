-- Fields 1 to 3, the model: machines, queues and transitions.
use Rattle.std.specs.Prelude.{ℕ, List}
use Rattle.numbers.specs.Part.{Part, got, and_then}
use Rattle.reading_model.specs.Machines.{read_machines}
use Rattle.reading_model.specs.Queues.{read_queues}
use Rattle.reading_model.specs.Transitions.{read_transitions}
use Rattle.tables.specs.declared.tables.ModelTables.{ModelTables}

unfoldable pub read_model : List ℕ → ℕ → Part ModelTables
read_model s at =
    and_then (read_machines s at) (λ first p₁.
    and_then (read_queues s p₁ first.0) (λ q p₂.
    and_then (read_transitions s p₂ first.1 q) (λ τ p₃.
    got (record { machines = first.1; queues = q; transitions = τ }) p₃)))
