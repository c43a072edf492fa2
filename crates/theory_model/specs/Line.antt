-- The line that the program prints, as byte values (document 01, "What the program prints").
use Rattle.std.specs.Prelude.{true, false, List, [], ◌∷◌, ◌++◌, ℕ, zero, suc, ◌+◌, ◌/◌, ◌%◌, ltb, length}
use Rattle.theory_model.specs.Verdict.{Reply, closed, outside, leaves, bad}

-- a number in decimal, by the most digits that it may have; no number printed has more than ten
unfoldable pub digits : ℕ → ℕ → List ℕ
digits zero n = []
digits (suc most) n = elim (ltb n 10) [ true ↦ (48 + n) ∷ [] | false ↦ digits most (n / 10) ++ ((48 + n % 10) ∷ []) ]

abbrev pub decimal : ℕ → List ℕ
decimal n = digits 10 n

-- a space and a number
abbrev pub spaced : ℕ → List ℕ
spaced n = 32 ∷ decimal n

unfoldable pub spaced_all : List ℕ → List ℕ
spaced_all [] = []
spaced_all (m ∷ w) = spaced m ++ spaced_all w

-- a colon, and the messages; how many there are comes before it
abbrev pub listed : List ℕ → List ℕ
listed w = 58 ∷ spaced_all w

abbrev pub newline : List ℕ
newline = 10 ∷ []

-- the words of the lines
abbrev pub closed_word : List ℕ
closed_word = 99 ∷ 108 ∷ 111 ∷ 115 ∷ 101 ∷ 100 ∷ []

abbrev pub outside_word : List ℕ
outside_word = 111 ∷ 117 ∷ 116 ∷ 115 ∷ 105 ∷ 100 ∷ 101 ∷ []

abbrev pub leaves_word : List ℕ
leaves_word = 108 ∷ 101 ∷ 97 ∷ 118 ∷ 101 ∷ 115 ∷ []

abbrev pub bad_word : List ℕ
bad_word = 98 ∷ 97 ∷ 100 ∷ []

abbrev pub refused_word : List ℕ
refused_word = 114 ∷ 101 ∷ 102 ∷ 117 ∷ 115 ∷ 101 ∷ 100 ∷ []

-- " at"
abbrev pub at_word : List ℕ
at_word = 32 ∷ 97 ∷ 116 ∷ []

unfoldable pub line : Reply → List ℕ
line (closed p) = closed_word ++ (spaced p ++ newline)
line outside = outside_word ++ newline
line (leaves c t w f) = leaves_word ++ (spaced c ++ (spaced t ++ (spaced (length w) ++ (spaced f ++ (listed w ++ newline)))))
line (bad b w) = bad_word ++ (spaced b ++ (spaced (length w) ++ (listed w ++ newline)))

-- of a refusal: its number and its place
unfoldable pub refused_line : ℕ → ℕ → List ℕ
refused_line n p = refused_word ++ (spaced n ++ (at_word ++ (spaced p ++ newline)))
