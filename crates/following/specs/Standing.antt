-- Messages that stand in a table: in a ring of its bytes, and as a word.
use Rattle.std.specs.Prelude.{ℕ, zero, suc, ◌+◌, ◌%◌, ◌≤◌, ◌<◌, List, [], ◌∷◌, length, get_or, take, drop}
use Rattle.tables.specs.Limits.{most_messages, most_word}

-- the n messages in the ring of so many bytes at base, from place i on: places are taken round the ring
unfoldable pub standing : ℕ → List ℕ → ℕ → ℕ → ℕ → List ℕ
standing size table base i zero = []
standing size table base i (suc n) = get_or table (base + i % size) 0 ∷ standing size table base (i + 1) n

-- WHAT IS ASKED of a ring: its bytes are the table's, and head is one of its places
pub record RingAt (table : List ℕ) (base size head : ℕ) : Type 0 where
  pub within : base + size ≤ length table
  pub placed : head < size

-- so many messages of the word that begins at this entry
abbrev pub word_over : List ℕ → ℕ → ℕ → List ℕ
word_over table at n = take n (drop at table)

-- WHAT IS ASKED of a word: the bytes of the longest are the table's, and so many of them are messages
pub record WordWithin (table : List ℕ) (at n : ℕ) : Type 0 where
  pub within : at + most_word ≤ length table
  pub most : n ≤ most_word
  pub messages : (i : ℕ) → i < n → get_or table (at + i) 0 < most_messages
