-- A text put into a buffer from a place on, and how texts that are put one after the other make one text.
use Rattle.std.specs.Prelude.{ℕ, ◌+◌, ◌≤◌, ◌≡◌, List, ◌++◌, length}
use Rattle.std.proofs.lemmas.List.Edits.{sets}

-- the text stands in the buffer from the place on, all else is as it was, and r is the place after it, at most so far on
pub record Put (entry : List ℕ) (at most : ℕ) (text exit : List ℕ) (r : ℕ) : Type 0 where
  pub buffer : exit ≡ sets entry at text
  pub next : r ≡ at + length text
  pub within : r ≤ at + most

-- four texts one after the other, and their length
abbrev pub four : List ℕ → List ℕ → List ℕ → List ℕ → List ℕ
four a b c d = ((a ++ b) ++ c) ++ d

abbrev pub four_long : List ℕ → List ℕ → List ℕ → List ℕ → ℕ
four_long a b c d = length a + length b + length c + length d
