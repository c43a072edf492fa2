-- What waits in the queues at the start (document 02, change 8): how many messages in each, and a table with room for the messages of each.
use Rattle.std.specs.Prelude.{ℕ, zero, suc, ◌+◌, ◌*◌, Bool, true, false, List, [], ◌∷◌, get_or, take, drop, eqb}
use Rattle.tables.specs.Limits.{most_queues, most_starting}
use Rattle.tables.specs.declared.tables.Queues.{Queues}

-- entries of the table
abbrev pub starting_length : ℕ
starting_length = most_queues * most_starting

-- so many values of f, from q on
abbrev pub each : (ℕ → List ℕ) → ℕ → ℕ → List (List ℕ)
each f zero q = []
each f (suc left) q = f q ∷ each f left (q + 1)

-- what waits in queue q
abbrev pub starting_at : List ℕ → List ℕ → ℕ → List ℕ
starting_at lengths contents q = take (get_or lengths q 0) (drop (q * most_starting) contents)

-- THE STARTING CONTENTS, queue by queue
abbrev pub starting_of : Queues → List (List ℕ)
starting_of q = each (starting_at q.lengths q.contents) q.count 0

-- does some queue start with a message?
unfoldable pub waits : List ℕ → Bool
waits [] = false
waits (n ∷ ns) = elim (eqb n 0) [ true ↦ waits ns | false ↦ true ]
