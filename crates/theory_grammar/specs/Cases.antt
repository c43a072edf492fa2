-- Small texts, parsed and measured.
use Rattle.std.specs.Prelude.{◌≡◌, refl, [], ◌∷◌}
use Rattle.theory_grammar.specs.Tree.{letter, empty, sequence, either, star}
use Rattle.theory_grammar.specs.Parse.{parsed, stuck, parse, run}
use Rattle.theory_grammar.specs.Offends.{passed, limits, limits_from}

-- (0|1)* 2
both_and_two : parse (40 ∷ 48 ∷ 124 ∷ 49 ∷ 41 ∷ 42 ∷ 32 ∷ 50 ∷ [])
    ≡ parsed (sequence (star (either (sequence (letter 0) empty) (sequence (letter 1) empty))) (sequence (letter 2) empty))
unfolding run
both_and_two = refl

-- the empty text is one empty alternative
nothing : parse [] ≡ parsed empty
unfolding run
nothing = refl

-- 01: one byte is left
leading_zero : parse (48 ∷ 49 ∷ []) ≡ stuck 1
unfolding run
leading_zero = refl

-- (0: the end
open_group : parse (40 ∷ 48 ∷ []) ≡ stuck 0
unfolding run
open_group = refl

-- 0 * *: a star after a star
two_stars : parse (48 ∷ 32 ∷ 42 ∷ 32 ∷ 42 ∷ []) ≡ stuck 1
unfolding run
two_stars = refl

-- 0 32
large_number : limits (48 ∷ 32 ∷ 51 ∷ 50 ∷ []) ≡ passed 5 2
unfolding limits_from
large_number = refl
