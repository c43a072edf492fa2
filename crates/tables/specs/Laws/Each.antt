-- Lists of so many values.
use Rattle.std.specs.Prelude.{ℕ, zero, suc, ◌+◌, ◌≤◌, ◌<◌, ◌≡◌, refl, List, [], ◌∷◌, ◌++◌, length, get_or, set}
use Rattle.std.proofs.Common.{ap, ap₂, ◌∙◌, arith}
use Rattle.tables.specs.Starting.{each}

pub each_length : (f : ℕ → List ℕ) (left q : ℕ) → length (each f left q) ≡ left
each_length f zero q = refl
each_length f (suc left) q = ap suc (each_length f left (q + 1))

pub each_at : (f : ℕ → List ℕ) (left q k : ℕ) → k < left → get_or (each f left q) k [] ≡ f (q + k)
each_at f zero q k h = absurd (omega arith)
each_at f (suc left) q zero h = ap f (let z : q ≡ q + 0 = omega arith in z)
each_at f (suc left) q (suc k) h =
    each_at f left (q + 1) k (omega arith) ∙ ap f (let z : q + 1 + k ≡ q + suc k = omega arith in z)

pub each_same : (f g : ℕ → List ℕ) (left q : ℕ) → ((j : ℕ) → q ≤ j → j < q + left → g j ≡ f j) → each g left q ≡ each f left q
each_same f g zero q h = refl
each_same f g (suc left) q h =
    ap₂ {C = List (List ℕ)} (λ x l. x ∷ l) (h q (omega arith) (omega arith))
    (each_same f g left (q + 1) (λ j a b. h j (omega arith) (omega arith)))

-- one value is another
pub each_set : (f g : ℕ → List ℕ) (left q k : ℕ) {x : List ℕ} → g (q + k) ≡ x → ((j : ℕ) → (j ≡ q + k → ⊥) → g j ≡ f j)
    → each g left q ≡ set (each f left q) k x
each_set f g zero q k e other = refl
each_set f g (suc left) q zero e other =
    ap₂ {C = List (List ℕ)} (λ x l. x ∷ l) (ap g (let z : q ≡ q + 0 = omega arith in z) ∙ e)
    (each_same f g left (q + 1) (λ j a b. other j (λ s. omega arith)))
each_set f g (suc left) q (suc k) e other =
    ap₂ {C = List (List ℕ)} (λ x l. x ∷ l) (other q (λ s. omega arith))
    (each_set f g left (q + 1) k (ap g (let z : q + 1 + k ≡ q + suc k = omega arith in z) ∙ e) (λ j n. other j (λ s. n (omega arith))))

-- one value more
pub each_snoc : (f : ℕ → List ℕ) (left q : ℕ) → each f (suc left) q ≡ each f left q ++ (f (q + left) ∷ [])
each_snoc f zero q = ap (λ k. f k ∷ []) (let z : q ≡ q + 0 = omega arith in z)
each_snoc f (suc left) q =
    ap (λ l. f q ∷ l)
    (each_snoc f left (q + 1)
    ∙ ap (λ k. each f left (q + 1) ++ (f k ∷ [])) (let z : q + 1 + left ≡ q + suc left = omega arith in z))
