-- What the pass over a text keeps of the bytes before a place, and how one byte more changes it.
use Rattle.std.specs.Prelude.{◌≡◌, refl, Bool, true, false, cond, not, ◌&&◌, List, [], ◌∷◌, ◌++◌, ℕ, suc, eqb, length}
use Rattle.std.proofs.Common.{ap, ◌∙◌, arith}
use Rattle.std.proofs.lemmas.Bool.{false≢true}
use Rattle.theory_grammar.specs.Grammar.{EndsInDigit}
use Rattle.theory_grammar.specs.Parse.{is_digit}
use Rattle.theory_grammar.specs.Offends.{value_from, numbers_from, times, more}
use Rattle.theory_grammar.specs.Laws.Signs.{is_digit_lem, digit_is}

-- does it end in a digit? `inside` says that a digit stands before it
abbrev pub ends_from : Bool → List ℕ → Bool
ends_from inside [] = inside
ends_from inside (b ∷ u) = ends_from (is_digit b) u

pub ends_is : (u : List ℕ) → EndsInDigit u → ends_from false u ≡ true
ends_is [] d = elim d [ ]
ends_is (b ∷ []) d = digit_is b d
ends_is (b ∷ (c ∷ u)) e = ends_is (c ∷ u) e

pub is_ends : (u : List ℕ) → ends_from false u ≡ true → EndsInDigit u
is_ends [] e = absurd (false≢true e)
is_ends (b ∷ []) e = is_digit_lem b e
is_ends (b ∷ (c ∷ u)) e = is_ends (c ∷ u) e

pub ends_more : (inside : Bool) (u : List ℕ) (b : ℕ) → ends_from inside (u ++ (b ∷ [])) ≡ is_digit b
ends_more inside [] b = refl
ends_more inside (c ∷ u) b = ends_more (is_digit c) u b

more_suc : (t : Bool) (n : ℕ) → suc (more t n) ≡ more t (suc n)
more_suc true n = omega arith
more_suc false n = refl

pub times_more : (c : ℕ) (u : List ℕ) (b : ℕ) → times c (u ++ (b ∷ [])) ≡ more (eqb b c) (times c u)
times_more c [] b = by (eqb b c)
  where
    by : (t : Bool) → cond t (suc 0) 0 ≡ more t 0
    by true = refl
    by false = refl
times_more c (a ∷ u) b = by (eqb a c) (times_more c u b)
  where
    by : (t : Bool) → times c (u ++ (b ∷ [])) ≡ more (eqb b c) (times c u)
        → cond t (suc (times c (u ++ (b ∷ [])))) (times c (u ++ (b ∷ []))) ≡ more (eqb b c) (cond t (suc (times c u)) (times c u))
    by true e = ap suc e ∙ more_suc (eqb b c) (times c u)
    by false e = e

pub count_more : (inside : Bool) (u : List ℕ) (b : ℕ)
    → length (numbers_from inside (u ++ (b ∷ []))) ≡ more (is_digit b && not (ends_from inside u)) (length (numbers_from inside u))
count_more true [] b = by (is_digit b)
  where
    by : (t : Bool) → length (numbers_from t []) ≡ more (t && false) 0
    by true = refl
    by false = refl
count_more false [] b = by (is_digit b)
  where
    by : (t : Bool) → length (cond t (value_from 0 (b ∷ []) ∷ []) []) ≡ more (t && true) 0
    by true = refl
    by false = refl
count_more true (c ∷ u) b = count_more (is_digit c) u b
count_more false (c ∷ u) b = by (is_digit c) (λ i. count_more i u b)
  where
    new : Bool → Bool
    new t = is_digit b && not (ends_from t u)

    by : (t : Bool)
        → ((i : Bool) → length (numbers_from i (u ++ (b ∷ []))) ≡ more (new i) (length (numbers_from i u)))
        → length (cond t (value_from 0 (c ∷ (u ++ (b ∷ []))) ∷ numbers_from true (u ++ (b ∷ []))) (numbers_from false (u ++ (b ∷ []))))
        ≡ more (new t) (length (cond t (value_from 0 (c ∷ u) ∷ numbers_from true u) (numbers_from false u)))
    by true rec = ap suc (rec true) ∙ more_suc (new true) (length (numbers_from true u))
    by false rec = rec false
