-- What waits in one ring: how much, from where, and what a word that is put or taken changes.
use Rattle.std.specs.Prelude.{ℕ, zero, suc, ◌+◌, ◌-◌, ◌*◌, ◌%◌, ◌≤◌, ◌<◌, ◌≡◌, refl, List, [], ◌∷◌, ◌++◌, length, get_or, set, drop}
use Rattle.std.proofs.Common.{sym, ap, ap₂, ◌∙◌, append-nil, arith, length-set, length-append, get_or-set_same, get_or-set_other, drop-set-lt, drop_at}
use Rattle.std.proofs.Math.Option.{some}
use Rattle.std.proofs.Math.Seq.{append_snoc}
use Rattle.theory_replay.specs.Rules.{room}
use Rattle.theory_model.specs.Model.{strip}
use Rattle.theory_model.specs.Laws.Queues.{strip_is}
use Rattle.following.specs.Standing.{standing}
use Rattle.replaying_queues.specs.Ring.{waiting, put_round}

pub waiting_length : (mem : List ℕ) (base i n : ℕ) → length (waiting mem base i n) ≡ n
unfolding standing
waiting_length mem base i zero = refl
waiting_length mem base i (suc n) = ap suc (waiting_length mem base (i + 1) n)

-- a place and the same place round the ring
pub waiting_round : (mem : List ℕ) (base i j n : ℕ) → i % room ≡ j % room → waiting mem base i n ≡ waiting mem base j n
unfolding standing
waiting_round mem base i j zero e = refl
waiting_round mem base i j (suc n) e =
    ap₂ {C = List ℕ} (λ x l. x ∷ l) (ap (λ k. get_or mem (base + k) 0) e) (waiting_round mem base (i + 1) (j + 1) n (omega arith))

-- memories that hold the same in the ring's bytes
pub waiting_same : (mem mem' : List ℕ) (base i n : ℕ) → ((k : ℕ) → k < room → get_or mem (base + k) 0 ≡ get_or mem' (base + k) 0)
    → waiting mem base i n ≡ waiting mem' base i n
unfolding standing
waiting_same mem mem' base i zero h = refl
waiting_same mem mem' base i (suc n) h =
    ap₂ {C = List ℕ} (λ x l. x ∷ l) (h (i % room) (omega arith)) (waiting_same mem mem' base (i + 1) n h)

-- A BYTE that no message stands in
pub waiting_other : (mem : List ℕ) (base i n p v : ℕ) → ((k : ℕ) → k < n → base + (i + k) % room ≡ p → ⊥)
    → waiting (set mem p v) base i n ≡ waiting mem base i n
unfolding standing
waiting_other mem base i zero p v h = refl
waiting_other mem base i (suc n) p v h =
    ap₂ {C = List ℕ} (λ x l. x ∷ l)
    (get_or-set_other mem p (base + i % room) v 0 (λ e. h 0 (omega arith) (omega arith)))
    (waiting_other mem base (i + 1) n p v (λ k l e. h (k + 1) (omega arith) (omega arith)))

-- A MESSAGE put after those that wait
pub push_one : (mem : List ℕ) (base i n v : ℕ) → n < room → base + room ≤ length mem
    → waiting (set mem (base + (i + n) % room) v) base i (suc n) ≡ waiting mem base i n ++ (v ∷ [])
unfolding standing
push_one mem base i zero v h g =
    ap (λ x. x ∷ [])
    (ap (λ k. get_or (set mem (base + k % room) v) (base + i % room) 0) (let z : i + 0 ≡ i = omega arith in z)
    ∙ get_or-set_same mem (base + i % room) v 0 (omega arith))
push_one mem base i (suc n) v h g =
    ap₂ {C = List ℕ} (λ x l. x ∷ l)
    (get_or-set_other mem (base + (i + suc n) % room) (base + i % room) v 0 (λ e. omega arith))
    (ap (λ k. waiting (set mem (base + k % room) v) base (i + 1) (suc n)) (let z : i + suc n ≡ i + 1 + n = omega arith in z)
    ∙ push_one mem base (i + 1) n v (omega arith) g)

-- A WORD put after those that wait
pub push_word : (mem : List ℕ) (base i n : ℕ) (w : List ℕ) → n + length w ≤ room → base + room ≤ length mem
    → waiting (put_round mem base (i + n) w) base i (n + length w) ≡ waiting mem base i n ++ w
unfolding put_round
push_word mem base i n [] h g = ap (waiting mem base i) (let z : n + 0 ≡ n = omega arith in z) ∙ sym (append-nil (waiting mem base i n))
push_word mem base i n (m ∷ w) h g =
    let after : List ℕ = set mem (base + (i + n) % room) m in
    let long = length-set mem (base + (i + n) % room) m in
    ap₂ (λ k l. waiting (put_round after base k w) base i l) (let z : i + n + 1 ≡ i + suc n = omega arith in z)
    (let z : n + suc (length w) ≡ suc n + length w = omega arith in z)
    ∙ push_word after base i (suc n) w (omega arith) (omega arith)
    ∙ ap (λ l. l ++ w) (push_one mem base i n m (omega arith) g)
    ∙ append_snoc (waiting mem base i n) m w

-- a word put into ring q leaves every other ring as it was
pub put_other : (mem : List ℕ) (base i : ℕ) (w : List ℕ) (q k j n : ℕ) → base ≡ q * room → (k ≡ q → ⊥)
    → waiting (put_round mem base i w) (k * room) j n ≡ waiting mem (k * room) j n
unfolding put_round
put_other mem base i [] q k j n e other = refl
put_other mem base i (m ∷ w) q k j n e other =
    put_other (set mem (base + i % room) m) base (i + 1) w q k j n e other
    ∙ waiting_other mem (k * room) j n (base + i % room) m (λ l h same. other (omega arith))

-- and the bytes after its own ring
pub put_past : (mem : List ℕ) (base i : ℕ) (w : List ℕ) (p : ℕ) → base + room ≤ p → drop p (put_round mem base i w) ≡ drop p mem
unfolding put_round
put_past mem base i [] p h = refl
put_past mem base i (m ∷ w) p h =
    put_past (set mem (base + i % room) m) base (i + 1) w p h ∙ drop-set-lt p mem (base + i % room) m (omega arith)

pub put_length : (mem : List ℕ) (base i : ℕ) (w : List ℕ) → length (put_round mem base i w) ≡ length mem
unfolding put_round
put_length mem base i [] = refl
put_length mem base i (m ∷ w) =
    put_length (set mem (base + i % room) m) base (i + 1) w ∙ length-set mem (base + i % room) m

-- WHAT IS LEFT after messages are taken from the front
pub waiting_drop : (mem : List ℕ) (base i n k : ℕ) → k ≤ n → drop k (waiting mem base i n) ≡ waiting mem base (i + k) (n - k)
unfolding standing
waiting_drop mem base i n zero h =
    ap₂ (waiting mem base) (let z : i ≡ i + 0 = omega arith in z) (let z : n ≡ n - 0 = omega arith in z)
waiting_drop mem base i zero (suc k) h = absurd (omega arith)
waiting_drop mem base i (suc n) (suc k) h =
    waiting_drop mem base (i + 1) n k (omega arith)
    ∙ ap₂ (waiting mem base) (let z : i + 1 + k ≡ i + suc k = omega arith in z) (let z : n - k ≡ suc n - suc k = omega arith in z)

pub strip_waiting : (mem : List ℕ) (base i n : ℕ) (w r : List ℕ) → strip w (waiting mem base i n) ≡ some r
    → (length w ≤ n) × (r ≡ waiting mem base (i + length w) (n - length w))
strip_waiting mem base i n w r e =
    let whole = strip_is w (waiting mem base i n) e in
    let short : length w ≤ n = omega (arith, ap length whole, waiting_length mem base i n, length-append w r) in
    (short, sym (drop_at w r (length w) refl) ∙ ap (drop (length w)) (sym whole) ∙ waiting_drop mem base i n (length w) short)
