-- What holds of the model that was read (fields 1 to 3).
use Rattle.std.specs.Prelude.{ℕ, ◌≡◌, List}
use Rattle.std.proofs.Common.{subst}
use Rattle.numbers.specs.Part.{got}
use Rattle.numbers.specs.Laws.Parts.{and_then_got, same_value}
use Rattle.reading_model.specs.Machines.{read_machines}
use Rattle.reading_model.specs.Queues.{read_queues}
use Rattle.reading_model.specs.Transitions.{read_transitions}
use Rattle.reading_model.specs.Model.{read_model}
use Rattle.tables.specs.Valid.{ModelValid}
use Rattle.reading_model.specs.Laws.Machines.{machines_valid}
use Rattle.reading_model.specs.Laws.Starting.{queues_valid}
use Rattle.reading_model.specs.Laws.Transitions.{transitions_valid}
use Rattle.tables.specs.declared.tables.ModelTables.{ModelTables}

pub model_valid : (s : List ℕ) (at : ℕ) {M : ModelTables} {next : ℕ} → read_model s at ≡ got M next → ModelValid M
unfolding read_model
model_valid s at e =
    let m = and_then_got (read_machines s at) e in
    let q = and_then_got (read_queues s m.place m.value.0) m.then in
    let τ = and_then_got (read_transitions s q.place m.value.1 q.value) q.then in
    let queues = queues_valid s m.place m.value.0 q.first in
    subst ModelValid (same_value τ.then)
    (record {
      machines = machines_valid s at m.first;
      queues = queues;
      transitions = transitions_valid s m.value.1 q.value queues.least q.place τ.first;
    })
