-- What waits at the start is of each queue's own messages.
use Rattle.std.specs.Prelude.{ℕ, suc, ◌+◌, ◌*◌, ◌<◌, ◌≡◌, List, [], ◌∷◌, length, get_or, take, drop}
use Rattle.std.proofs.Common.{subst, get_or-drop, length-take-le, arith}
use Rattle.tables.specs.Limits.{most_starting}
use Rattle.tables.specs.Starting.{each, starting_at, starting_of}
use Rattle.tables.specs.Valid.{QueuesValid}
use Rattle.tables.specs.declared.tables.Queues.{Queues}
use Rattle.theory_model.specs.Model.{Between, Own, none_left, queue, first_of}
use Rattle.theory_model.specs.Laws.Queues.{between_wide, first_zero}
use Rattle.theory_tables.specs.Laws.Queues.{first_is}
use Rattle.theory_files.specs.Laws.Counts.{between_take}

-- words one after the other, each of its own queue
own_each : (ns : List ℕ) (k : ℕ) (f : ℕ → List ℕ) (i : ℕ)
    → ((j : ℕ) → j < length ns → Between (k + first_of ns j) (k + first_of ns (suc j)) (f (i + j))) → Own k ns (each f (length ns) i)
own_each [] k f i h = none_left
own_each (n ∷ ns) k f i h =
    queue {k = k} {n = n}
    (between_wide (omega arith) (omega (arith, first_zero ns)) (subst (λ x. Between (k + 0) (k + (n + first_of ns 0)) (f x)) (let z : i + 0 ≡ i = omega arith in z) (h 0 (omega arith))))
    (own_each ns (k + n) f (i + 1) (λ j l.
    between_wide (omega arith) (omega arith)
    (subst (λ x. Between (k + (n + first_of ns j)) (k + (n + first_of ns (suc j))) (f x)) (let z : i + suc j ≡ i + 1 + j = omega arith in z) (h (suc j) (omega arith)))))

pub starting_own : (q : Queues) → QueuesValid q → Own 0 (take q.count q.messages) (starting_of q)
starting_own q Q =
    let long = length-take-le q.count q.messages (omega (arith, Q.most, Q.long)) in
    subst (λ n. Own 0 ns (each f n 0)) long (own_each ns 0 f 0 (λ j l. word j (omega arith)))
  where
    ns : List ℕ
    ns = take q.count q.messages

    f : ℕ → List ℕ
    f = starting_at q.lengths q.contents

    word : (j : ℕ) → j < q.count → Between (0 + first_of ns j) (0 + first_of ns (suc j)) (f (0 + j))
    word j l =
        let w = Q.starting.words j l in
        let lo = first_is q.messages q.count j (omega arith) in
        let hi = first_is q.messages q.count (suc j) l in
        subst (λ x. Between (0 + first_of ns j) (0 + first_of ns (suc j)) (f x)) (let z : j ≡ 0 + j = omega arith in z)
        (between_take (get_or q.lengths j 0) (drop (j * most_starting) q.contents)
        (λ i h.
        let e = get_or-drop (j * most_starting) q.contents i 0 in
        let o = w.word i h in
        (omega (arith, o.from), omega (arith, o.below))))
