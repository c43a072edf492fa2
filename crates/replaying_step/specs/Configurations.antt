-- The configuration that a run's record and the queue memory stand for, and what both keep while a replay runs.
use Rattle.std.specs.Prelude.{ℕ, ◌*◌, ◌≤◌, ◌<◌, ◌≡◌, List, length, get_or, take, replicate}
use Rattle.tables.specs.Limits.{most_machines, most_queues}
use Rattle.tables.specs.Valid.{QueuesValid}
use Rattle.tables.specs.declared.tables.Machines.{Machines}
use Rattle.tables.specs.declared.tables.Queues.{Queues}
use Rattle.theory_model.specs.Model.{Configuration, Own, number}
use Rattle.theory_model.specs.Session.{States}
use Rattle.controls.specs.Controls.{sizes_of}
use Rattle.theory_replay.specs.Rules.{room}
use Rattle.replaying_queues.specs.Ring.{rings}
use Rattle.replaying_queues.specs.Laid.{memory_after}
use Rattle.replaying_step.specs.declared.runs.RunRecord.{RunRecord}

-- a record of its parts
abbrev pub run_of : List ℕ → List ℕ → List ℕ → RunRecord
run_of states heads lengths = record { states = states; heads = heads; lengths = lengths }

-- THE CONFIGURATION
abbrev pub config_of : Machines → Queues → RunRecord → List ℕ → Configuration
config_of m q r mem =
    record {
      control = number (sizes_of m) (take m.count r.states);
      queues = rings mem r.heads r.lengths q.count;
    }

-- for each queue how many messages it has
abbrev pub counts_of : Queues → List ℕ
counts_of q = take q.count q.messages

-- the rings: each head in its ring, no more messages than room, none beyond the count of queues
pub record InRings (q : Queues) (hs ls : List ℕ) : Type 0 where
  pub heads_long : length hs ≡ most_queues
  pub lengths_long : length ls ≡ most_queues
  pub placed : (i : ℕ) → get_or hs i 0 < room
  pub held : (i : ℕ) → get_or ls i 0 ≤ room
  pub rest : (i : ℕ) → q.count ≤ i → get_or ls i 0 ≡ 0

-- what a record and the memory keep while a replay runs
pub record Holds (m : Machines) (q : Queues) (r : RunRecord) (mem : List ℕ) : Type 0 where
  pub states_long : length r.states ≡ most_machines
  pub placed : States (sizes_of m) (take m.count r.states)
  pub rest : (i : ℕ) → m.count ≤ i → get_or r.states i 0 ≡ 0
  pub ringed : InRings q r.heads r.lengths
  pub contents : Own 0 (counts_of q) (rings mem r.heads r.lengths q.count)
  pub enough : q.count * room ≤ length mem

-- what is asked for the form of the end, and what is found: no heads, each queue's messages at its front, and the rest as it was
pub record Settleable (q : Queues) (r : RunRecord) (mem : List ℕ) : Type 0 where
  pub queues : QueuesValid q
  pub ringed : InRings q r.heads r.lengths
  pub enough : q.count * room ≤ length mem

pub record Settles (q : Queues) (r : RunRecord) (mem : List ℕ) (r' : RunRecord) (mem' : List ℕ) : Type 0 where
  pub lent : r' ≡ run_of r.states (replicate most_queues 0) r.lengths
  pub memory : mem' ≡ memory_after (rings mem r.heads r.lengths q.count) mem
