-- Queues in lent memory at the start of a replay (document 02, change 8).
use Rattle.std.specs.Prelude.{ℕ, ◌*◌, ◌≤◌, ◌≡◌, List, length, drop, replicate}
use Rattle.tables.specs.Limits.{most_queues}
use Rattle.tables.specs.Starting.{each, starting_at}
use Rattle.tables.specs.Valid.{QueuesValid}
use Rattle.tables.specs.declared.tables.Queues.{Queues}
use Rattle.theory_replay.specs.Rules.{room}
use Rattle.replaying_queues.specs.Ring.{rings}

-- what is asked: tables of queues that a file may have, and room for each queue
pub record Layable (q : Queues) (mem : List ℕ) : Type 0 where
  pub queues : QueuesValid q
  pub enough : q.count * room ≤ length mem

-- the heads at the start: each queue's oldest message in the first byte of its ring
abbrev pub fronts : List ℕ
fronts = replicate most_queues 0

-- THE STARTING CONTENTS of the first so many queues wait in their rings, and the memory past these stays
pub record Lays (lengths contents : List ℕ) (count : ℕ) (mem mem' : List ℕ) : Type 0 where
  pub queues : rings mem' fronts lengths count ≡ each (starting_at lengths contents) count 0
  pub past : drop (count * room) mem' ≡ drop (count * room) mem
  pub long : length mem' ≡ length mem
