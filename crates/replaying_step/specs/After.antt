-- The run's record at the end of a replay (document 02, change 2).
use Rattle.std.specs.Prelude.{ℕ, ◌-◌, List, ◌++◌, map, length, replicate}
use Rattle.tables.specs.Limits.{most_machines, most_queues}
use Rattle.tables.specs.declared.tables.Machines.{Machines}
use Rattle.theory_model.specs.Model.{Configuration, places}
use Rattle.controls.specs.Controls.{sizes_of}
use Rattle.replaying_step.specs.declared.runs.RunRecord.{RunRecord}

-- each machine's state, heads 0, and each queue's length; 0 beyond the counts
abbrev pub padded : ℕ → List ℕ → List ℕ
padded n l = l ++ replicate (n - length l) 0

abbrev pub record_after : Machines → Configuration → RunRecord
record_after m γ =
    record {
      states = padded most_machines (places (sizes_of m) γ.control);
      heads = replicate most_queues 0;
      lengths = padded most_queues (map length γ.queues);
    }
