-- What it means that some queue starts with a message; and from a queue on, by what that queue starts with.
use Rattle.std.specs.Prelude.{ℕ, zero, suc, ◌+◌, ◌≤◌, ◌<◌, ◌≡◌, refl, Bool, true, false, ◌↔◌, List, [], ◌∷◌, length, get_or, drop, eqb}
use Rattle.std.proofs.Math.Path.{ap}
use Rattle.std.proofs.Common.{◌∙◌, true≢false, drop_of_length-le, drop-cons, eqb-true, add-one}
use Rattle.std.proofs.lemmas.Bool.{eqb-false}
use Rattle.tables.specs.Starting.{waits}

-- NO QUEUE STARTS WITH A MESSAGE exactly if all lengths are 0
pub waits_none : (l : List ℕ) → waits l ≡ false → (i : ℕ) → get_or l i 0 ≡ 0
unfolding waits
waits_none [] e i = refl
waits_none (n ∷ l) e i = by_first (λ f j. waits_none l f j) (eqb n 0) refl e i
  where
    by_first : (waits l ≡ false → (j : ℕ) → get_or l j 0 ≡ 0) → (b : Bool) → eqb n 0 ≡ b → elim b [ true ↦ waits l | false ↦ true ] ≡ false → (j : ℕ) → get_or (n ∷ l) j 0 ≡ 0
    by_first later true z f zero = eqb-true n 0 z
    by_first later true z f (suc j) = later f j
    by_first later false z f j = absurd (true≢false f)

pub none_waits : (l : List ℕ) → ((i : ℕ) → get_or l i 0 ≡ 0) → waits l ≡ false
unfolding waits
none_waits [] h = refl
none_waits (n ∷ l) h = by_first (eqb n 0) refl (none_waits l (λ i. h (suc i)))
  where
    by_first : (b : Bool) → eqb n 0 ≡ b → waits l ≡ false → elim b [ true ↦ waits l | false ↦ true ] ≡ false
    by_first true z f = f
    by_first false z f = absurd (eqb-false n 0 z (h 0))

pub waits_none_is : (l : List ℕ) → (waits l ≡ false) ↔ ((i : ℕ) → get_or l i 0 ≡ 0)
waits_none_is l = (waits_none l, none_waits l)

module _ (lengths : List ℕ) (i : ℕ) where
  pub waits_here : i < length lengths → eqb (get_or lengths i 0) 0 ≡ false → waits (drop i lengths) ≡ true
  unfolding waits
  waits_here h e = rw (drop-cons lengths i 0 h, waits, e)

  pub waits_on : i < length lengths → eqb (get_or lengths i 0) 0 ≡ true → waits (drop i lengths) ≡ waits (drop (i + 1) lengths)
  unfolding waits
  waits_on h e = ap waits (drop-cons lengths i 0 h) ∙ rw (waits, e, add-one)

  pub waits_end : length lengths ≤ i → waits (drop i lengths) ≡ false
  unfolding waits
  waits_end h = ap waits (drop_of_length-le lengths h)
