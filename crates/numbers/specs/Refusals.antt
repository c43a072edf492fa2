-- The numbers of the refusals: document 01, "When a file or a question is turned away", and document 02.
use Rattle.std.specs.Prelude.{ℕ}

-- more bytes than an input may have
abbrev pub too_long : ℕ
too_long = 1

-- too little memory is lent
abbrev pub short_memory : ℕ
short_memory = 2

-- the bytes end before a number or inside one
abbrev pub ends_early : ℕ
ends_early = 3

-- a number of two bytes that is not in the shortest form, or longer
abbrev pub not_shortest : ℕ
not_shortest = 4

-- a number outside its field's range
abbrev pub out_of_range : ℕ
out_of_range = 5

-- the product of states or the sum of messages passes its limit
abbrev pub passes_limit : ℕ
passes_limit = 6

-- a message of a word is in another queue
abbrev pub other_queue : ℕ
other_queue = 7

-- an arc's message does not ascend
abbrev pub not_ascending : ℕ
not_ascending = 8

-- a word that is accepted from a root is not in queue order
abbrev pub not_in_queue_order : ℕ
not_in_queue_order = 9

-- bytes after the last field
abbrev pub trailing : ℕ
trailing = 10

-- membership: no control state of the file
abbrev pub no_control : ℕ
no_control = 11

-- membership: no message of the file
abbrev pub no_message : ℕ
no_message = 12

-- membership: a message of an earlier queue than the one before it
abbrev pub earlier_queue : ℕ
earlier_queue = 13

-- a replay: the step cannot be taken
abbrev pub not_possible : ℕ
not_possible = 14

-- a replay: a queue has no room for what is sent
abbrev pub queue_full : ℕ
queue_full = 15

-- writing: no file has these tables
abbrev pub not_readable : ℕ
not_readable = 16

-- a buffer is too short for what is written
abbrev pub buffer_short : ℕ
buffer_short = 17

-- an expression of more bytes than a text may have
abbrev pub text_too_long : ℕ
text_too_long = 18

-- a text outside the grammar
abbrev pub outside_grammar : ℕ
outside_grammar = 19

-- a group in too many groups
abbrev pub too_deep : ℕ
too_deep = 20

-- more numbers than a text may have
abbrev pub too_many_numbers : ℕ
too_many_numbers = 21

-- more states than a pool may have
abbrev pub too_many_states : ℕ
too_many_states = 22

-- a file that resumes, and all its queues start empty
abbrev pub starts_empty : ℕ
starts_empty = 23
