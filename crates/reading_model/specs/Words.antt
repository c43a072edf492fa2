-- A word of messages, all of one queue: of a transition, or waiting in a queue at the start.
use Rattle.std.specs.Prelude.{ℕ, zero, suc, ◌+◌, List, set, ltb, leb}
use Rattle.numbers.specs.Part.{Part, got, provided, and_then}
use Rattle.numbers.specs.Number.{read_below}
use Rattle.numbers.specs.Refusals.{other_queue}

-- a message of the queue whose messages are those from lo on and below hi
unfoldable pub read_message : List ℕ → ℕ → ℕ → ℕ → ℕ → Part ℕ
read_message s at sum lo hi =
    and_then (read_below s at sum) (λ m next. provided (leb lo m) other_queue at (provided (ltb m hi) other_queue at (got m next)))

-- the messages of a word, into a table's entries from j on
unfoldable pub read_word : List ℕ → ℕ → ℕ → ℕ → ℕ → ℕ → ℕ → List ℕ → Part (List ℕ)
read_word s at sum lo hi zero j table = got table at
read_word s at sum lo hi (suc left) j table =
    and_then (read_message s at sum lo hi) (λ m next. read_word s next sum lo hi left (j + 1) (set table j m))
