-- Sets of occurrences as numbers: an occurrence is in the set if its bit is 1. Tables are lists with an entry for each occurrence.
use Rattle.std.specs.Prelude.{Bool, cond, List, ℕ, zero, suc, ◌+◌, ◌/◌, ◌%◌, ◌^◌, ltb, eqb, get_or, set}
use Rattle.std.specs.Int.Bits.{bit_and, bit_or}
use Rattle.theory_grammar.specs.Offends.{most_occurrences}

-- is the occurrence in the set?
abbrev pub has : ℕ → ℕ → Bool
has x zero = eqb (x % 2) 1
has x (suc p) = has (x / 2) p

unfoldable pub joined : ℕ → ℕ → ℕ
joined x y = bit_or x y

unfoldable pub meet : ℕ → ℕ → ℕ
meet x y = bit_and x y

-- the set of one occurrence, which is empty where it has no bit
abbrev pub only : ℕ → ℕ
only k = cond (ltb k most_occurrences) (2 ^ k) 0

-- an entry that lies in the table is stored
abbrev pub put : ℕ → ℕ → List ℕ → List ℕ
put k v table = cond (ltb k most_occurrences) (set table k v) table

-- to the entry of each of a set's occurrences, from i on, these are added
unfoldable pub link_from : ℕ → ℕ → ℕ → ℕ → List ℕ → List ℕ
link_from zero i from to F = F
link_from (suc left) i from to F =
    link_from left (i + 1) (from / 2) to (cond (eqb (from % 2) 1) (set F i (joined (get_or F i 0) to)) F)

abbrev pub link : ℕ → ℕ → List ℕ → List ℕ
link from to F = link_from most_occurrences 0 from to F

-- the entries of a set's occurrences, from i on, added to a set
unfoldable pub gather_from : ℕ → ℕ → ℕ → List ℕ → ℕ → ℕ
gather_from zero i x F sum = sum
gather_from (suc left) i x F sum = gather_from left (i + 1) (x / 2) F (cond (eqb (x % 2) 1) (joined sum (get_or F i 0)) sum)

abbrev pub gather : ℕ → List ℕ → ℕ
gather x F = gather_from most_occurrences 0 x F 0

-- the occurrences of a message, from i on
unfoldable pub marked_from : ℕ → ℕ → ℕ → List ℕ → ℕ → ℕ
marked_from zero i m L sum = sum
marked_from (suc left) i m L sum = marked_from left (i + 1) m L (cond (eqb (get_or L i 0) m) (joined sum (only i)) sum)

abbrev pub marked : ℕ → List ℕ → ℕ
marked m L = marked_from most_occurrences 0 m L 0
