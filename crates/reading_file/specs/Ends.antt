-- THE ENDS of what is read: fields 5 and 6, then the test of queue order, and nothing after the last field. They ask for the number of control
-- states, the queues and the pool, and not where these were read.
use Rattle.std.specs.Prelude.{ℕ, List, length, leb}
use Rattle.numbers.specs.Part.{Part, got, provided, and_then}
use Rattle.numbers.specs.Refusals.{not_in_queue_order, trailing}
use Rattle.reading_order.specs.Search.{in_queue_order}
use Rattle.reading_file.specs.Sets.{read_sets}
use Rattle.tables.specs.declared.tables.Queues.{Queues}
use Rattle.tables.specs.declared.tables.Pool.{Pool}
use Rattle.tables.specs.declared.tables.SetTables.{SetTables}

unfoldable pub read_ends : List ℕ → ℕ → ℕ → Queues → Pool → Part SetTables
read_ends s at product q P =
    and_then (read_sets s at product P.count) (λ D next.
    provided (in_queue_order q P product D) not_in_queue_order next
    (provided (leb (length s) next) trailing next (got D next)))
