-- Small texts, and what comes of them.
use Rattle.std.specs.Prelude.{◌≡◌, refl, true, false, [], ◌∷◌, map}
use Rattle.theory_exploration.specs.Explore.{explore, rounds, expand, fresh, starts, children_from}
use Rattle.theory_grammar.specs.Tree.{letter, empty, sequence, either, star}
use Rattle.theory_grammar.specs.Parse.{run}
use Rattle.theory_grammar.specs.Offends.{limits_from}
use Rattle.theory_occurrences.specs.Sets.{joined, meet, link_from, gather_from, marked_from}
use Rattle.theory_occurrences.specs.Positions.{automaton, ends}
use Rattle.expression.specs.Expression.{states, turned_away, expression}

-- 0*: the start is not the set that it leads to
star_of_one : states (automaton (sequence (star (letter 0)) empty)) ≡ 0 ∷ 1 ∷ []
unfolding explore rounds expand fresh starts children_from joined meet link_from gather_from marked_from
star_of_one = refl

-- (0|1)* 2: the start, and each of the three occurrences by itself; only the last ends a word
both_and_two : states (automaton (sequence (star (either (letter 0) (letter 1))) (sequence (letter 2) empty))) ≡ 0 ∷ 1 ∷ 2 ∷ 4 ∷ []
unfolding explore rounds expand fresh starts children_from joined meet link_from gather_from marked_from
both_and_two = refl

two_ends : map (ends (automaton (sequence (star (either (letter 0) (letter 1))) (sequence (letter 2) empty)))) (0 ∷ 1 ∷ 2 ∷ 4 ∷ [])
    ≡ false ∷ false ∷ false ∷ true ∷ []
unfolding joined meet
two_ends = refl

-- 01, (0 and 32
leading_zero : expression (48 ∷ 49 ∷ []) ≡ turned_away 19 1
unfolding expression run
leading_zero = refl

open_group : expression (40 ∷ 48 ∷ []) ≡ turned_away 19 2
unfolding expression run
open_group = refl

no_message_lem : expression (51 ∷ 50 ∷ []) ≡ turned_away 5 0
unfolding expression run limits_from
no_message_lem = refl
