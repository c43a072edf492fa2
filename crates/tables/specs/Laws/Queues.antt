-- The first messages of queues, and which queue a message is of.
use Rattle.std.specs.Prelude.{ℕ, zero, suc, ◌+◌, ◌-◌, ◌≤◌, ◌<◌, ◌≡◌, refl, Bool, true, false, List, length, get_or, set, ltb}
use Rattle.std.proofs.Common.{ap, ap₂, ◌∙◌, get_or-set_same, get_or-set_other, ltb-true, ltb-false, arith, zero-add, add-one}
use Rattle.tables.specs.Queues.{first_message, OfQueue}
use Rattle.tables.specs.Valid.{QueuesValid}
use Rattle.tables.specs.declared.tables.Queues.{Queues}

pub first_same : (t u : List ℕ) (i : ℕ) → ((k : ℕ) → k < i → get_or u k 0 ≡ get_or t k 0) → first_message u i ≡ first_message t i
unfolding first_message
first_same t u zero h = refl
first_same t u (suc i) h = ap₂ (λ x y. x + y) (first_same t u i (λ k l. h k (omega arith))) (h i (omega arith))

pub first_set : (t : List ℕ) (i v : ℕ) → i < length t → first_message (set t i v) (i + 1) ≡ first_message t i + v
unfolding first_message
first_set t i v h =
    ap (first_message (set t i v)) (add-one i)
    ∙ ap₂ (λ x y. x + y) (first_same t (set t i v) i (λ k l. get_or-set_other t i k v 0 (omega arith))) (get_or-set_same t i v 0 h)

first_further : (t : List ℕ) (p more : ℕ) → first_message t p ≤ first_message t (more + p)
unfolding first_message
first_further t p zero = omega (arith, ap (first_message t) (zero-add p))
first_further t p (suc more) =
    let n : suc more + p ≡ suc (more + p) = omega arith in
    omega (arith, first_further t p more, ap (first_message t) n)

-- later queues have later messages
pub first_ascends : (t : List ℕ) (p r : ℕ) → p ≤ r → first_message t p ≤ first_message t r
first_ascends t p r h =
    let n : r - p + p ≡ r = omega arith in
    omega (arith, first_further t p (r - p), ap (first_message t) n)

pub first_step : (t : List ℕ) (p : ℕ) → first_message t (suc p) ≡ first_message t p + get_or t p 0
unfolding first_message
first_step t p = refl

-- the end of a queue stays within the whole
pub end_within : (t : List ℕ) {p n first limit : ℕ}
    → first ≡ first_message t p → p < n → first_message t n ≤ limit → first + get_or t p 0 ≤ limit
end_within t {p} {n} e h l = omega (arith, first_ascends t (suc p) n h, first_step t p)

-- every message of the first n queues is of one of them
pub message_placed : (t : List ℕ) (n m : ℕ) → m < first_message t n → (p : ℕ) × (p < n) × (first_message t p ≤ m) × (m < first_message t (suc p))
unfolding first_message
message_placed t zero m h = absurd (omega arith)
message_placed t (suc n) m h = go (message_placed t n m) (ltb m (first_message t n)) refl
  where
    go : (m < first_message t n → (p : ℕ) × (p < n) × (first_message t p ≤ m) × (m < first_message t (suc p))) → (b : Bool) → ltb m (first_message t n) ≡ b
        → (p : ℕ) × (p < suc n) × (first_message t p ≤ m) × (m < first_message t (suc p))
    go earlier true e =
        let q = earlier (ltb-true m (first_message t n) e) in (q.0, omega (arith, q.1), q.2, q.3)
    go earlier false e = (n, omega arith, ltb-false m (first_message t n) e, h)

pub of_queue_below_sum : (q : Queues) (p m : ℕ) → QueuesValid q → OfQueue q p m → m < q.sum
of_queue_below_sum q p m z o = omega (arith, first_ascends q.messages (suc p) q.count o.queue, z.sum, o.below)

pub below_sum_of_queue : (q : Queues) (m : ℕ) → QueuesValid q → m < q.sum → (p : ℕ) × OfQueue q p m
below_sum_of_queue q m z h =
    let f = message_placed q.messages q.count m (omega (arith, z.sum)) in
    (f.0, record { queue = f.1; from = f.2; below = f.3 })
