-- Words of the pool are paths from node to node: each message leads from a state and a rank to the next ones.
use Prim.Native.Nat.{ℕ, zero, suc, ◌+◌, ◌/◌, ◌%◌, ◌≤◌, ◌<◌, zero-le}
use Rattle.std.specs.Prelude.{◌≡◌, ◌⊎◌, List, [], ◌∷◌, length, take, ltb}
use Rattle.std.proofs.Math.Path.{refl, ap}
use Rattle.std.proofs.Common.{sym, ap₂, subst, subst₂, ◌∙◌, inl, inr, length-take-le}
use Rattle.std.proofs.Math.Option.{some, map, map-eq-some_iff}
use mathlib.Core.List.Memᴰ
use Rattle.std.proofs.Math.ListN.{get_or}
use borrow.Author.Tests.{lt-ltb, ltb-true, ltb-false}
use native.Mathlib.Omega.{arith}
use Rattle.tables.specs.Limits.{most_queues, most_messages}
use Rattle.tables.specs.Queues.{first_message, OfQueue}
use Rattle.tables.specs.Pool.{arc_at}
use Rattle.tables.specs.Valid.{QueuesValid, PoolValid}
use Rattle.tables.specs.Laws.Queues.{first_step, of_queue_below_sum, below_sum_of_queue}
use Rattle.tables.specs.declared.tables.Queues.{Queues}
use Rattle.tables.specs.declared.tables.Pool as Declared
use Rattle.theory_model.specs.Model.{total, queue_of, nothing, message}
use Rattle.theory_model.specs.Diagram.{follow}
use Rattle.theory_model.specs.Laws.Basics.{by_test}
use Rattle.theory_model.specs.Laws.Walks.{follow_front}
use Rattle.theory_exploration.specs.Mem.{Mem}
use Rattle.reading_order.specs.Nodes.{ranks, node_of, rank_after, arc_nodes, queue_nodes, next_nodes}
use Rattle.theory_tables.specs.Pool.{arc_of, pool_of}
use Rattle.theory_exploration.specs.Laws.Gather.{gather_has, gather_is}
use Rattle.reading_order.specs.Laws.Paths.{Path, stay, on}
use Rattle.theory_tables.specs.Laws.Arcs.{arc_is, arc_within}
use Rattle.theory_tables.specs.Laws.Queues.{messages_are, queue_of_lem}
use Rattle.reading_order.specs.Laws.Ranks.{rank_along, rank_below}

-- A NODE is its state and its rank
pub node_state : (s r : ℕ) → r < ranks → node_of s r / ranks ≡ s
node_state s r h = omega arith

pub node_rank : (s r : ℕ) → r < ranks → node_of s r % ranks ≡ r
node_rank s r h = omega arith

module _ (q : Queues) (P : Declared.Pool) (Q : QueuesValid q) (G : PoolValid q.sum P) where
  abbrev ns : List ℕ
  ns = take q.count q.messages

  abbrev next : ℕ → List ℕ
  next = next_nodes P.arcs q.messages q.count

  -- the table has room for the messages of every queue, so its arcs for them are the pool's
  table_arc : (s p m : ℕ) {t : ℕ} → OfQueue q p m → arc_at P.arcs s m ≡ some t → arc_of P.arcs s m ≡ some t
  table_arc s p m o e = rw (lt-ltb m most_messages (omega (arith, of_queue_below_sum q p m Q o, Q.sum_most)), arc_of) e

  -- THE ARCS OF ALL QUEUES, one after the other
  -- node k is where a message leads, from state s and rank r
  abbrev Led : ℕ → ℕ → ℕ → Type 0
  Led s r k = (m t : ℕ) × (arc_of P.arcs s m ≡ some t) × (k ≡ node_of t (rank_after r (queue_of ns m)))

  queue_leads : (s r p first k : ℕ) → first ≡ first_message q.messages p → p < q.count
      → Mem k (arc_nodes P.arcs s (rank_after r p) (get_or q.messages p 0) first) → Led s r k
  queue_leads s r p first k f h i =
      let (m, l, u, e) = gather_is _ (get_or q.messages p 0) first k i in
      let (t, a, x) = (map-eq-some_iff (λ t. node_of t (rank_after r p)) (arc_at P.arcs s m)).0 e in
      let o : OfQueue q p m = record { queue = h; from = omega arith; below = omega (arith, first_step q.messages p) } in
      (m, t, table_arc s p m o a, sym x ∙ ap (λ y. node_of t (rank_after r y)) (sym (queue_of_lem q Q p m o)))

  first_next : (p first : ℕ) → first ≡ first_message q.messages p → first + get_or q.messages p 0 ≡ first_message q.messages (p + 1)
  first_next p first f = let n : p + 1 ≡ suc p = omega arith in omega (arith, first_step q.messages p, ap (first_message q.messages) n)

  queues_lead : (s r left p first k : ℕ) → first ≡ first_message q.messages p → left + p ≡ q.count
      → Mem k (queue_nodes P.arcs s r q.messages left p first) → Led s r k
  unfolding queue_nodes
  queues_lead s r zero p first k f h i = absurd (Memᴰ.not-nil i)
  queues_lead s r (suc left) p first k f h i =
      go (Memᴰ.append_cases (arc_nodes P.arcs s (rank_after r p) (get_or q.messages p 0) first) i)
      (queues_lead s r left (p + 1) (first + get_or q.messages p 0) k (first_next p first f) (omega arith))
    where
      go : {X : Type 0} → Mem k (arc_nodes P.arcs s (rank_after r p) (get_or q.messages p 0) first) ⊎ X → (X → Led s r k) → Led s r k
      go (inl j) later = queue_leads s r p first k f (omega arith) j
      go (inr j) later = later j

  queues_reach : (s r left p first m t p' : ℕ) → first ≡ first_message q.messages p → OfQueue q p' m → p ≤ p' → p' < p + left
      → arc_at P.arcs s m ≡ some t → Mem (node_of t (rank_after r p')) (queue_nodes P.arcs s r q.messages left p first)
  unfolding queue_nodes
  queues_reach s r zero p first m t p' f o l h e = absurd (omega arith)
  queues_reach s r (suc left) p first m t p' f o l h e =
      by_test (ltb p p')
      (λ b.
      let c = ltb-true p p' b in
      Memᴰ.append_right (arc_nodes P.arcs s (rank_after r p) (get_or q.messages p 0) first)
      (queues_reach s r left (p + 1) (first + get_or q.messages p 0) m t p' (first_next p first f) o (omega arith) (omega arith) e))
      (λ b.
      let c = ltb-false p p' b in
      let x : p' ≡ p = omega arith in
      let lo = ap (first_message q.messages) x in
      let hi = ap (λ y. first_message q.messages (suc y)) x in
      Memᴰ.append_left (queue_nodes P.arcs s r q.messages left (p + 1) (first + get_or q.messages p 0))
      (Memᴰ.cast (ap (λ y. node_of t (rank_after r y)) x)
      (gather_has _ (get_or q.messages p 0) first m (node_of t (rank_after r p)) (ap (map (λ t. node_of t (rank_after r p))) e)
      (omega (arith, o.from)) (omega (arith, o.below, first_step q.messages p)))))

  -- FROM A NODE
  node_next : (s r : ℕ) → r < ranks → next (node_of s r) ≡ queue_nodes P.arcs s r q.messages q.count 0 0
  node_next s r h = ap₂ (λ x y. queue_nodes P.arcs x y q.messages q.count 0 0) (node_state s r h) (node_rank s r h)

  first_none : ◌≡◌ {A = ℕ} 0 (first_message q.messages 0)
  unfolding first_message
  first_none = refl

  -- what a node leads to is where a message leads from its state, with the rank after that message
  next_arc : (s r : ℕ) → r < ranks → (k : ℕ) → Mem k (next (node_of s r))
      → (m t : ℕ) × (arc_of P.arcs s m ≡ some t) × (k ≡ node_of t (rank_after r (queue_of ns m)))
  next_arc s r h k i = queues_lead s r q.count 0 0 k first_none (omega arith) (subst (Mem k) (node_next s r h) i)

  -- and every arc of its state is among that
  arc_next : (s r m t : ℕ) → r < ranks → arc_of P.arcs s m ≡ some t → Mem (node_of t (rank_after r (queue_of ns m))) (next (node_of s r))
  arc_next s r m t h e =
      let (p, o) = below_sum_of_queue q m Q (arc_within P G s m t e).message in
      let i = queues_reach s r q.count 0 0 m t p first_none o zero-le (omega (arith, o.queue)) (arc_is P s m e).1 in
      subst₂ Mem (ap (λ y. node_of t (rank_after r y)) (sym (queue_of_lem q Q p m o))) (sym (node_next s r h)) i

  -- after a message that has an arc the rank is a rank: the next node can be taken apart in turn
  rank_next : (s r m t : ℕ) → r < ranks → arc_of P.arcs s m ≡ some t → rank_after r (queue_of ns m) < ranks
  rank_next s r m t h e =
      let few : length ns ≤ most_queues = omega (arith, length-take-le q.count q.messages (omega (arith, Q.most, Q.long)), Q.most) in
      let l : m < total ns = omega (arith, messages_are Q, (arc_within P G s m t e).message) in
      rank_below ns (m ∷ []) r few (message zero-le l nothing) h

  -- A PATH IS A WORD: it leads to the state that the word leads to, with the word's rank
  abbrev Read : ℕ → ℕ → ℕ → Type 0
  Read s r k = (u : List ℕ) × (t : ℕ) × (follow (pool_of P) (some s) u ≡ some t) × (k ≡ node_of t (rank_along ns r u))

  read_more : (s r m t k : ℕ) → arc_of P.arcs s m ≡ some t → Read t (rank_after r (queue_of ns m)) k → Read s r k
  read_more s r m t k e (u, t', f, g) = (m ∷ u, t', ap (λ o. follow (pool_of P) o u) e ∙ f, g)

  -- as a path's end is no state and rank by its form, they are given by an equation
  path_from : (s r j k : ℕ) → r < ranks → j ≡ node_of s r → Path P.arcs q.messages q.count j k → Read s r k
  path_from s r j k h e stay = ([], s, refl, e)
  path_from s r j k h e (on {k = k'} i p) =
      let (m, t, a, f) = next_arc s r h k' (subst (λ x. Mem k' (next x)) e i) in
      read_more s r m t k a (path_from t (rank_after r (queue_of ns m)) k' k (rank_next s r m t h a) f p)

  pub path_word : (s r : ℕ) → r < ranks → (k : ℕ) → Path P.arcs q.messages q.count (node_of s r) k
      → (u : List ℕ) × (t : ℕ) × (follow (pool_of P) (some s) u ≡ some t) × (k ≡ node_of t (rank_along ns r u))
  path_word s r h k p = path_from s r (node_of s r) k h refl p

  -- A WORD IS A PATH, back
  pub word_path : (s r : ℕ) → r < ranks → (u : List ℕ) (t : ℕ) → follow (pool_of P) (some s) u ≡ some t
      → Path P.arcs q.messages q.count (node_of s r) (node_of t (rank_along ns r u))
  word_path s r h [] t e =
      let x : s ≡ t = cc in
      subst (λ y. Path P.arcs q.messages q.count (node_of s r) (node_of y r)) x stay
  word_path s r h (m ∷ u) t e =
      let (x, a, f) = follow_front (pool_of P) (some s) (m ∷ []) u e in
      on (arc_next s r m x h a) (word_path x (rank_after r (queue_of ns m)) (rank_next s r m x h a) u t f)
