-- Control states: their numbers and the machines' states determine each other, and a step leads from a control state to a control state.
use Rattle.std.specs.Prelude.{◌≡◌, refl, List, [], ◌∷◌, ℕ, zero, suc, ◌+◌, ◌*◌, ◌/◌, ◌%◌, ◌<◌, get_or, set}
use Rattle.std.proofs.Common.{ap, ap₂, ◌∙◌, arith, mod-lt, div-add-mod', div-lt_iff_lt-mul, mul-zero}
use Rattle.std.proofs.Math.Arith.{digits_lt, digits_div, digits_mod}
use Rattle.theory_model.specs.Model.{sizes_product, number, places}
use Rattle.theory_model.specs.Session.{States}

factor_positive : (k p c : ℕ) → c < k * p → 0 < p
factor_positive k zero c h = omega (arith, h, mul-zero k)
factor_positive k (suc p) c h = omega arith

pub number_places : (ks : List ℕ) (c : ℕ) → c < sizes_product ks → number ks (places ks c) ≡ c
number_places [] c h = omega arith
number_places (k ∷ ks) c h = ap (λ (r : ℕ). c / sizes_product ks * sizes_product ks + r) (number_places ks (c % sizes_product ks) (mod-lt c (factor_positive k (sizes_product ks) c h))) ∙ div-add-mod' c (sizes_product ks)

pub number_below : (ks ps : List ℕ) → States ks ps → number ks ps < sizes_product ks
number_below [] (p ∷ ps) s = elim s [ ]
number_below (k ∷ ks) [] s = elim s [ ]
number_below [] [] s = omega arith
number_below (k ∷ ks) (p ∷ ps) s = digits_lt s.0 (number_below ks ps s.1)

pub places_number : (ks ps : List ℕ) → States ks ps → places ks (number ks ps) ≡ ps
places_number [] (p ∷ ps) s = elim s [ ]
places_number (k ∷ ks) [] s = elim s [ ]
places_number [] [] s = refl
places_number (k ∷ ks) (p ∷ ps) s =
    ap₂ {C = List ℕ} (λ x xs. x ∷ xs)
    (digits_div p (number_below ks ps s.1))
    (ap (places ks) (digits_mod p (number_below ks ps s.1)) ∙ places_number ks ps s.1)

pub places_are_states : (ks : List ℕ) (c : ℕ) → c < sizes_product ks → States ks (places ks c)
places_are_states [] c h = tt
places_are_states (k ∷ ks) c h =
    let positive = factor_positive k (sizes_product ks) c h in
    ((div-lt_iff_lt-mul positive).1 h, places_are_states ks (c % sizes_product ks) (mod-lt c positive))

pub states_set : (ks ps : List ℕ) (m p : ℕ) → p < get_or ks m 0 → States ks ps → States ks (set ps m p)
states_set [] (x ∷ ps) m p h s = elim h [ ]
states_set (k ∷ ks) [] m p h s = elim s [ ]
states_set [] [] m p h s = tt
states_set (k ∷ ks) (x ∷ ps) zero p h s = (h, s.1)
states_set (k ∷ ks) (x ∷ ps) (suc m) p h s = (s.0, states_set ks ps m p h s.1)
