-- Field 3: the transitions. Each has a row of the table: machine, from, to, kind, queue, word length, and the word's messages.
use Rattle.std.specs.Prelude.{cond, ℕ, zero, suc, ◌+◌, ◌*◌, List, get_or, set, replicate, eqb}
use Rattle.tables.specs.Limits.{most_transitions, most_word}
use Rattle.numbers.specs.Part.{Part, got, and_then}
use Rattle.numbers.specs.Number.{read_within, read_below, read_two}
use Rattle.tables.specs.Queues.{first_message}
use Rattle.tables.specs.declared.tables.Machines.{Machines}
use Rattle.tables.specs.declared.tables.Queues.{Queues}
use Rattle.tables.specs.declared.tables.Transitions.{Transitions}
use Rattle.reading_model.specs.Words.{read_word}
use Rattle.tables.specs.Rows.{row_length, rows_length, from_entry, to_entry, kind_entry, queue_entry, length_entry, word_entry}

-- what a send and a receive go on with: queue, word length, word
unfoldable pub read_action : List ℕ → ℕ → Queues → ℕ → List ℕ → Part (List ℕ)
read_action s at q row rows =
    and_then (read_below s at q.count) (λ queue p₁.
    and_then (read_within s p₁ 0 most_word) (λ len p₂.
    read_word s p₂ q.sum (first_message q.messages queue) (first_message q.messages (suc queue)) len (word_entry row)
    (set (set rows (queue_entry row) queue) (length_entry row) len)))

-- one transition, into the row that begins at entry row: machine, from and to, kind; kind 0, local, has nothing more
unfoldable pub read_transition : List ℕ → ℕ → Machines → Queues → ℕ → List ℕ → Part (List ℕ)
read_transition s at m q row rows =
    and_then (read_below s at m.count) (λ machine p₁.
    and_then (read_two s p₁ (get_or m.states machine 0) (get_or m.states machine 0)) (λ move p₂.
    and_then (read_below s p₂ 3) (λ kind p₃.
    cond (eqb kind 0)
    (got (set (set (set (set rows row machine) (from_entry row) move.0) (to_entry row) move.1) (kind_entry row) kind) p₃)
    (read_action s p₃ q row
    (set (set (set (set rows row machine) (from_entry row) move.0) (to_entry row) move.1) (kind_entry row) kind)))))

-- the transitions from number t on
unfoldable pub read_rows : List ℕ → ℕ → Machines → Queues → ℕ → ℕ → List ℕ → Part (List ℕ)
read_rows s at m q zero t rows = got rows at
read_rows s at m q (suc left) t rows =
    and_then (read_transition s at m q (t * row_length) rows) (λ rows' next. read_rows s next m q left (t + 1) rows')

unfoldable pub read_transitions : List ℕ → ℕ → Machines → Queues → Part Transitions
read_transitions s at m q =
    and_then (read_within s at 0 most_transitions) (λ count p₁.
    and_then (read_rows s p₁ m q count 0 (replicate (rows_length) 0)) (λ rows p₂.
    got (record { count = count; rows = rows }) p₂))
