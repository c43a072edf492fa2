-- The places of sets among the states.
use Rattle.std.specs.Prelude.{◌≡◌, refl, Bool, true, false, cond, not, List, [], ◌∷◌, ℕ, ◌+◌, eqb, position, is_some, Option, Some, None}
use Rattle.std.specs.List.{position_from}
use Rattle.std.proofs.lemmas.Iterator.Adapters.{position_from-zero}
use Rattle.std.proofs.Common.{sym, ap, ◌∙◌, ne_eqb, arith}
use Rattle.theory_exploration.specs.Marks.{mem}
use Rattle.expression_states.specs.States.{said_place, place_from}

-- PLACES, as an iterator finds them
place_from_is : (N : List ℕ) (i y : ℕ) → said_place (position_from (λ x. eqb x y) i N) ≡ place_from i N y
place_from_is [] i y = refl
place_from_is (x ∷ N) i y = by (eqb x y) (place_from_is N (i + 1) y)
  where
    by : (b : Bool) → said_place (position_from (λ z. eqb z y) (i + 1) N) ≡ place_from (i + 1) N y
        → said_place (cond b (Some i) (position_from (λ z. eqb z y) (i + 1) N)) ≡ cond b (i + 1) (place_from (i + 1) N y)
    by true e = refl
    by false e = e

pub place_is : (N : List ℕ) (y : ℕ) → said_place (position (λ x. eqb x y) N) ≡ place_from 0 N y
place_is N y = ap said_place (position_from-zero (λ x. eqb x y) N) ∙ place_from_is N 0 y

-- a set has a place exactly if it is one of the states
pub place_mem : (N : List ℕ) (i y : ℕ) → mem y N ≡ not (eqb (place_from i N y) 0)
place_mem [] i y = refl
place_mem (x ∷ N) i y = by (eqb x y) (place_mem N (i + 1) y)
  where
    by : (b : Bool) → mem y N ≡ not (eqb (place_from (i + 1) N y) 0)
        → elim b [ true ↦ true | false ↦ mem y N ] ≡ not (eqb (cond b (i + 1) (place_from (i + 1) N y)) 0)
    by true r = sym (ap not (ne_eqb (i + 1) 0 (λ e. absurd (omega arith))))
    by false r = r

some_place : (o : Option ℕ) → is_some o ≡ not (eqb (said_place o) 0)
some_place None = refl
some_place (Some i) = sym (ap not (ne_eqb (i + 1) 0 (λ e. absurd (omega arith))))

-- whether it is one of them, as the code asks
pub listed : (y : ℕ) {N S : List ℕ} {o : Option ℕ} {b : Bool} → N ≡ S → o ≡ position (λ x. eqb x y) N → b ≡ is_some o → b ≡ mem y S
listed y {N} {o = o} n p e =
    e ∙ some_place o ∙ ap (λ k. not (eqb k 0)) (ap said_place p ∙ place_is N y) ∙ sym (place_mem N 0 y) ∙ ap (mem y) n
