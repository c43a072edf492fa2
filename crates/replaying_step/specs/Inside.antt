-- Whether a record's configuration is inside, and how far it is followed where it is not; what is asked to find that.
use Rattle.std.specs.Prelude.{◌≡◌, Bool, true, false, List, ℕ, Result, Ok, Err, ⊤}
use Rattle.tables.specs.Valid.{MachinesValid, QueuesValid, PoolValid, MapValid}
use Rattle.theory_model.specs.Model.{Configuration}
use Rattle.replaying_step.specs.Parts.{pool_in, inside_of, far_of}
use Rattle.replaying_step.specs.Configurations.{Holds}
use Rattle.tables.specs.declared.view.TablesView.{TablesView}
use Rattle.replaying_step.specs.declared.inside.Outside.{Outside}
use Rattle.replaying_step.specs.declared.runs.RunRecord.{RunRecord}

-- inside, or outside with how far
abbrev pub Placed : Bool → ℕ → Result ⊤ Outside → Type 0
Placed inside far (Ok _) = inside ≡ true
Placed inside far (Err o) = (inside ≡ false) × (o.0 ≡ far)

pub record Located (t : TablesView) (γ : Configuration) (p : Result ⊤ Outside) : Type 0 where
  pub is : Placed (inside_of t.head t.finals.now t.arcs.now t.roots.now γ) (far_of t.head t.finals.now t.arcs.now t.roots.now γ) p

pub record Mapped (t : TablesView) (r : RunRecord) (mem : List ℕ) : Type 0 where
  pub machines : MachinesValid t.head.machines
  pub queues : QueuesValid t.head.queues
  pub pool : PoolValid t.head.queues.sum (pool_in t.head t.finals.now t.arcs.now)
  pub map : MapValid t.head.machines.product t.head.states (record { roots = t.roots.now })
  pub holds : Holds t.head.machines t.head.queues r mem
