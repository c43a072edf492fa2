-- A transition's row of the table: machine, from, to, kind, queue, word length, then room for the word's messages. The layout is said
-- here and nowhere else.
use Rattle.std.specs.Prelude.{ℕ, ◌+◌, ◌*◌, List, get_or, take, drop}
use Rattle.tables.specs.Limits.{most_transitions, most_word}

-- entries of a row before its word, of a row, and of the table
abbrev pub row_head : ℕ
row_head = 6

abbrev pub row_length : ℕ
row_length = row_head + most_word

abbrev pub rows_length : ℕ
rows_length = most_transitions * row_length

-- where the entries of the row stand that begins at entry row; its machine stands there itself
abbrev pub from_entry : ℕ → ℕ
from_entry row = row + 1

abbrev pub to_entry : ℕ → ℕ
to_entry row = row + 2

abbrev pub kind_entry : ℕ → ℕ
kind_entry row = row + 3

abbrev pub queue_entry : ℕ → ℕ
queue_entry row = row + 4

abbrev pub length_entry : ℕ → ℕ
length_entry row = row + 5

abbrev pub word_entry : ℕ → ℕ
word_entry row = row + row_head

-- and what they say
module _ (rows : List ℕ) (row : ℕ) where
  abbrev pub machine_at : ℕ
  machine_at = get_or rows row 0

  abbrev pub from_at : ℕ
  from_at = get_or rows (from_entry row) 0

  abbrev pub to_at : ℕ
  to_at = get_or rows (to_entry row) 0

  abbrev pub kind_at : ℕ
  kind_at = get_or rows (kind_entry row) 0

  abbrev pub queue_at : ℕ
  queue_at = get_or rows (queue_entry row) 0

  abbrev pub length_at : ℕ
  length_at = get_or rows (length_entry row) 0

  abbrev pub word_at : List ℕ
  word_at = take length_at (drop (word_entry row) rows)
