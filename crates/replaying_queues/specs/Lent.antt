-- What the code asks of lent rings, and what it finds in them.
use Rattle.std.specs.Prelude.{ℕ, ◌+◌, ◌*◌, ◌≤◌, ◌<◌, List, length, get_or}
use Rattle.tables.specs.Limits.{most_queues}
use Rattle.theory_replay.specs.Rules.{room}
use Rattle.replaying_queues.specs.declared.ring.QueueRing.{QueueRing}

-- a ring stands in the memory at base: its head is one of its places, and no more than its room waits
pub record Ring (mem : List ℕ) (base head count : ℕ) : Type 0 where
  pub within : base + room ≤ length mem
  pub placed : head < room
  pub held : count ≤ room

abbrev pub Stands : List ℕ → QueueRing → Type 0
Stands mem r = Ring mem r.base r.head r.count

-- the ring of queue q
abbrev pub ring_of : ℕ → List ℕ → List ℕ → QueueRing
ring_of q heads lengths = record { base = q * room; head = get_or heads q 0; count = get_or lengths q 0 }

-- so many rings, each in its own bytes
pub record Rings (mem heads lengths : List ℕ) (count : ℕ) : Type 0 where
  pub most : count ≤ most_queues
  pub within : count * room ≤ length mem
  pub placed : (q : ℕ) → get_or heads q 0 < room
  pub held : (q : ℕ) → get_or lengths q 0 ≤ room
