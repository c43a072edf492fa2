-- The queues of the tables are the model's: the front of their table is its list, with the same first messages, sum and owners.
use Rattle.std.specs.Prelude.{ℕ, zero, suc, ◌+◌, ◌-◌, ◌≤◌, ◌<◌, ◌≡◌, refl, List, [], ◌∷◌, length, get_or, take}
use Rattle.std.proofs.Common.{ap, ap₂, ◌∙◌, length-take-le, get_or-take, lt-ltb, le-ltb, arith}
use Rattle.tables.specs.Queues.{first_message, OfQueue}
use Rattle.tables.specs.Valid.{QueuesValid}
use Rattle.tables.specs.declared.tables.Queues.{Queues}
use Rattle.theory_model.specs.Model.{first_of, total, queue_of}
use Rattle.theory_model.specs.Laws.Queues.{first_zero}

-- SUMS
first_next : (ns : List ℕ) (q : ℕ) → first_of ns (suc q) ≡ first_of ns q + get_or ns q 0
first_next [] q = omega arith
first_next (n ∷ ns) zero = omega (arith, first_zero ns)
first_next (n ∷ ns) (suc q) = omega (arith, first_next ns q)

total_is_first : (ns : List ℕ) → total ns ≡ first_of ns (length ns)
total_is_first [] = refl
total_is_first (n ∷ ns) = ap (λ (x : ℕ). n + x) (total_is_first ns)

pub first_is : (t : List ℕ) (n q : ℕ) → q ≤ n → first_of (take n t) q ≡ first_message t q
unfolding first_message
first_is t n zero h = first_zero (take n t)
first_is t n (suc q) h =
    first_next (take n t) q ∙ ap₂ (λ (x y : ℕ). x + y) (first_is t n q (omega arith)) (get_or-take n t q 0 h)

pub total_is : (t : List ℕ) (n : ℕ) → n ≤ length t → total (take n t) ≡ first_message t n
total_is t n h =
    total_is_first (take n t) ∙ ap (first_of (take n t)) (length-take-le n t h) ∙ first_is t n n (omega arith)

-- the queue whose messages begin at or before m, and end after it
pub queue_is : (ns : List ℕ) (p m : ℕ) → p < length ns → first_of ns p ≤ m → m < first_of ns (suc p) → queue_of ns m ≡ p
queue_is [] p m h l u = absurd (omega arith)
queue_is (n ∷ ns) zero m h l u = rw (lt-ltb m n (omega (arith, first_zero ns)), queue_of)
queue_is (n ∷ ns) (suc p) m h l u =
    rw (le-ltb m n (omega arith), queue_of) (ap suc (queue_is ns p (m - n) (omega arith) (omega arith) (omega arith)))

-- the messages of all queues are as many as the sum says
pub messages_are : {q : Queues} → QueuesValid q → total (take q.count q.messages) ≡ q.sum
messages_are {q} v = omega (arith, total_is q.messages q.count (omega (arith, v.most, v.long)), v.sum)

-- the queue of a message
pub queue_of_lem : (q : Queues) → QueuesValid q → (p m : ℕ) → OfQueue q p m → queue_of (take q.count q.messages) m ≡ p
queue_of_lem q Q p m o =
    let long = length-take-le q.count q.messages (omega (arith, Q.most, Q.long)) in
    let lo = first_is q.messages q.count p (omega (arith, o.queue)) in
    let hi = first_is q.messages q.count (suc p) o.queue in
    queue_is (take q.count q.messages) p m (omega (arith, o.queue)) (omega (arith, o.from)) (omega (arith, o.below))
