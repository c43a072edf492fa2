-- Queues in lent memory while a replay runs: queue q in the `room` bytes from byte room · q, as a ring.
use Rattle.std.specs.Prelude.{ℕ, ◌+◌, ◌*◌, ◌%◌, Bool, true, false, List, [], ◌∷◌, get_or, set}
use Rattle.std.proofs.Math.Option.{Option, none, some}
use Rattle.tables.specs.Starting.{each}
use Rattle.theory_replay.specs.Rules.{room}
use Rattle.following.specs.Standing.{standing}

-- the n messages that wait in the ring at base, from place i on
abbrev pub waiting : List ℕ → ℕ → ℕ → ℕ → List ℕ
waiting mem base i n = standing room mem base i n

-- what waits in queue q
abbrev pub ring_at : List ℕ → List ℕ → List ℕ → ℕ → List ℕ
ring_at mem heads lengths q = waiting mem (q * room) (get_or heads q 0) (get_or lengths q 0)

-- THE QUEUES in so many rings
abbrev pub rings : List ℕ → List ℕ → List ℕ → ℕ → List (List ℕ)
rings mem heads lengths count = each (ring_at mem heads lengths) count 0

-- a word put into the ring at base, from place i on
unfoldable pub put_round : List ℕ → ℕ → ℕ → List ℕ → List ℕ
put_round mem base i [] = mem
put_round mem base i (m ∷ w) = put_round (set mem (base + i % room) m) base (i + 1) w

-- does a queue begin with a word?
abbrev pub began : Option (List ℕ) → Bool
began none = false
began (some r) = true
