-- The limits of a session file (document 01, "The session file"), each by name.
use Rattle.std.specs.Prelude.{ℕ}

abbrev pub most_machines : ℕ
most_machines = 4

-- states of one machine
abbrev pub most_states : ℕ
most_states = 16

-- control states: K, the product of the machines' states
abbrev pub most_controls : ℕ
most_controls = 256

abbrev pub most_queues : ℕ
most_queues = 4

-- messages of all queues together
abbrev pub most_messages : ℕ
most_messages = 32

-- messages that a queue starts with (document 02, change 8)
abbrev pub most_starting : ℕ
most_starting = 8

abbrev pub most_transitions : ℕ
most_transitions = 128

-- messages of a transition's word
abbrev pub most_word : ℕ
most_word = 16

-- states of the pool: n
abbrev pub most_pool : ℕ
most_pool = 127

abbrev pub most_bad : ℕ
most_bad = 64

-- bytes of a contents buffer, below which checking is refused
abbrev pub contents_least : ℕ
contents_least = 32768
