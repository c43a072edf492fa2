-- Messages are numbered through the queues: the first message of a queue, and whose a message is.
use Rattle.std.specs.Prelude.{ℕ, zero, suc, ◌+◌, ◌≤◌, ◌<◌, List, ◌≡◌, get_or}
use Rattle.tables.specs.declared.tables.Queues.{Queues}
use Rattle.tables.specs.declared.spans.Span.{Span}

-- the first message of queue q: the messages of the queues before it, together
unfoldable pub first_message : List ℕ → ℕ → ℕ
first_message counts zero = 0
first_message counts (suc q) = first_message counts q + get_or counts q 0

-- the messages of queue q: from the first of it on, and below the first of the next
pub record Spans (counts : List ℕ) (q : ℕ) (r : Span) : Type 0 where
  pub lo : r.lo ≡ first_message counts q
  pub hi : r.hi ≡ first_message counts (suc q)

-- message m is of queue p
pub record OfQueue (q : Queues) (p m : ℕ) : Type 0 where
  pub queue : p < q.count
  pub from : first_message q.messages p ≤ m
  pub below : m < first_message q.messages (suc p)
