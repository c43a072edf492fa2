-- The product of the first entries, factor by factor. Entries are bytes, so that four of them do not pass what a machine number holds.
use Rattle.std.specs.Prelude.{ℕ, zero, suc, ◌+◌, ◌*◌, ◌≤◌, ◌<◌, ◌≡◌, refl, List, length, get_or, take}
use Rattle.std.proofs.Common.{sym, ap, ap₂, subst, ◌∙◌, length-take, get_or-take, arith, mul-le-mul}
use Rattle.tables.specs.Valid.{product_of}

-- the most that so many bytes have as their product
unfoldable pub most_of : ℕ → ℕ
most_of zero = 1
most_of (suc i) = most_of i * 255

-- THE LOOP: the product of the first i entries
pub record Multiplied (l : List ℕ) (i product : ℕ) : Type 0 where
  pub is : product ≡ product_of l i
  pub most : product ≤ most_of i

pub multiplied_none : (l : List ℕ) → Multiplied l 0 1
unfolding product_of most_of
multiplied_none l = record { is = refl; most = omega arith }

multiplied_suc : {l : List ℕ} {i product x : ℕ} → Multiplied l i product → x ≡ get_or l i 0 → x < 256 → Multiplied l (suc i) (product * x)
unfolding product_of most_of
multiplied_suc m e h = record { is = ap₂ (λ (a b : ℕ). a * b) m.is e; most = mul-le-mul m.most (omega arith) }

pub multiplied_more : {l : List ℕ} {i product x : ℕ} → Multiplied l i product → x ≡ get_or l i 0 → x < 256
    → Multiplied l (i + 1) (product * x)
multiplied_more {l} {i} {product} {x} m e h =
    let n : suc i ≡ i + 1 = omega arith in subst (λ (k : ℕ). Multiplied l k (product * x)) n (multiplied_suc m e h)

-- the same where the factor is read from the front
pub multiplied_front : (l : List ℕ) (n i : ℕ) {product : ℕ} → Multiplied l i product → i < length (take n l) → get_or l i 0 < 256
    → Multiplied l (i + 1) (product * get_or (take n l) i 0)
multiplied_front l n i {product} m h few =
    let within : i < n = omega (arith, h, length-take n l) in
    let same = get_or-take n l i 0 within in
    multiplied_more m same (subst (λ (x : ℕ). x < 256) (sym same) few)

most_four : (i : ℕ) → i ≤ 4 → most_of i ≤ 4228250625
unfolding most_of
most_four zero h = omega arith
most_four (suc zero) h = omega arith
most_four (suc (suc zero)) h = omega arith
most_four (suc (suc (suc zero))) h = omega arith
most_four (suc (suc (suc (suc zero)))) h = omega arith
most_four (suc (suc (suc (suc (suc i))))) h = absurd (omega arith)

pub multiplied_most : {l : List ℕ} {i product : ℕ} → Multiplied l i product → i ≤ 4 → product ≤ 4228250625
multiplied_most {i = i} m h = omega (arith, m.most, most_four i h)

pub multiplied_done : {l : List ℕ} {i n product : ℕ} → Multiplied l i product → i ≤ n → n ≤ i → product ≡ product_of l n
multiplied_done {l} {i} {n} m a b = let e : i ≡ n = omega arith in m.is ∙ ap (product_of l) e
