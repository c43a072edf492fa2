-- The front of a table is the model's list: its products are those of the table's entries.
use Rattle.std.specs.Prelude.{ℕ, zero, suc, ◌*◌, ◌≤◌, ◌<◌, ◌≡◌, refl, List, [], ◌∷◌, ◌++◌, length, get_or, take}
use Rattle.std.proofs.Common.{sym, ap, ◌∙◌, take-suc, arith, mul_assoc, mul-one, one-mul}
use Rattle.theory_model.specs.Model.{sizes_product, Between, nothing, message}
use Rattle.theory_model.specs.Session.{States}
use Rattle.tables.specs.Valid.{product_of}

-- PRODUCTS
product_snoc : (ks : List ℕ) (k : ℕ) → sizes_product (ks ++ (k ∷ [])) ≡ sizes_product ks * k
product_snoc [] k = mul-one k ∙ sym (one-mul k)
product_snoc (j ∷ ks) k = ap (λ (x : ℕ). j * x) (product_snoc ks k) ∙ sym (mul_assoc j (sizes_product ks) k)

pub product_is : (t : List ℕ) (n : ℕ) → n ≤ length t → sizes_product (take n t) ≡ product_of t n
unfolding product_of
product_is t zero h = refl
product_is t (suc n) h =
    ap sizes_product (take-suc t n 0 h) ∙ product_snoc (take n t) (get_or t n 0) ∙ ap (λ (x : ℕ). x * get_or t n 0) (product_is t n (omega arith))

-- ENTRIES
-- a state for each of the first n machines
pub states_are : (n : ℕ) (ks ps : List ℕ) → n ≤ length ks → n ≤ length ps → ((i : ℕ) → i < n → get_or ps i 0 < get_or ks i 0)
    → States (take n ks) (take n ps)
states_are zero ks ps a b h = tt
states_are (suc n) [] ps a b h = absurd (omega arith)
states_are (suc n) (k ∷ ks) [] a b h = absurd (omega arith)
states_are (suc n) (k ∷ ks) (p ∷ ps) a b h =
    (h 0 (omega arith), states_are n ks ps (omega arith) (omega arith) (λ i l. h (suc i) (omega arith)))

pub between_take : {lo hi : ℕ} (n : ℕ) (t : List ℕ) → ((i : ℕ) → i < n → (lo ≤ get_or t i 0) × (get_or t i 0 < hi)) → Between lo hi (take n t)
between_take zero t h = nothing
between_take (suc n) [] h = nothing
between_take (suc n) (m ∷ t) h =
    let first = h 0 (omega arith) in
    message first.0 first.1 (between_take n t (λ i l. h (suc i) (omega arith)))
