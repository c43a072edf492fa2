-- A search over one list in place: what is done is the front of the list, and the next to do stands right after it.
use Rattle.std.specs.Prelude.{ℕ, suc, ◌+◌, ◌-◌, ◌≤◌, ◌<◌, ◌≡◌, refl, List, [], ◌∷◌, ◌++◌, eqb, length, get_or, take}
use Rattle.std.proofs.Common.{sym, ap, ◌∙◌, arith, length-append, length-take-le, get_or-take}
use Rattle.std.proofs.lemmas.List.{get_or_at}
use Rattle.theory_exploration.specs.Explore.{fresh, expand}

-- WHAT IS REACHED: one more is done
pub expand_on : (next : ℕ → List ℕ) {most k : ℕ} (done : List ℕ) (e : ℕ) (todo : List ℕ) → k < most
    → expand (λ k. k) eqb next (most - k) done (e ∷ todo)
    ≡ expand (λ k. k) eqb next (most - (k + 1)) (done ++ (e ∷ [])) (todo ++ fresh (λ k. k) eqb (done ++ (e ∷ todo)) (next e))
unfolding expand
expand_on next {most} {k} done e todo h =
    let one : most - k ≡ suc (most - (k + 1)) = omega arith in
    ap (λ i. expand (λ k. k) eqb next i done (e ∷ todo)) one

-- A FRONT of a list in two parts: the second begins with the member at the place where the first ends
module _ (nodes done todo : List ℕ) (n k : ℕ) (within : n ≤ length nodes) (whole : take n nodes ≡ done ++ todo) (taken : length done ≡ k) where
  pub front_many : length (done ++ todo) ≡ n
  front_many = sym (ap length whole) ∙ length-take-le n nodes within

  pub front_next : k < n → (t : List ℕ) × (todo ≡ get_or nodes k 0 ∷ t)
  front_next h = go todo refl
    where
      go : (l : List ℕ) → todo ≡ l → (t : List ℕ) × (todo ≡ get_or nodes k 0 ∷ t)
      go [] z = absurd (omega (arith, front_many, length-append done todo, taken, ap length z))
      go (x ∷ t) z =
          let place : get_or nodes k 0 ≡ x =
          sym (get_or-take n nodes k 0 h) ∙ ap (λ l. get_or l k 0) (whole ∙ ap (λ l. done ++ l) z) ∙ get_or_at done x t 0 k taken in
          (t, z ∙ ap (λ y. y ∷ t) (sym place))

  -- nothing is left where the first part is all
  pub front_end : n ≤ k → todo ≡ []
  front_end h = go todo refl
    where
      go : (l : List ℕ) → todo ≡ l → todo ≡ []
      go [] z = z
      go (x ∷ t) z = absurd (omega (arith, front_many, length-append done todo, taken, ap length z))
