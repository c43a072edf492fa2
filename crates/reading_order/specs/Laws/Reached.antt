-- What the search finds: the nodes on the paths from where it starts, each once; and with that, what its test tells.
use Rattle.std.specs.Prelude.{ℕ, zero, suc, ◌+◌, ◌/◌, ◌%◌, ◌≤◌, ◌<◌, ◌≡◌, ◌⊎◌, Bool, cond, length, get_or, ltb}
use Rattle.std.proofs.Math.Path.{refl}
use Rattle.std.proofs.Common.{subst, sym, inl, inr, ⊎_elim, arith, eqb-true, eq-eqb}
use Rattle.std.proofs.Math.Bool.{true, false, true≢false}
use Rattle.std.proofs.Math.Option.{Option, none, some, map-eq-some_iff}
use mathlib.Core.List.Memᴰ
use mathlib.Core.List.{List, [], ◌∷◌, append-nil}
use Rattle.std.proofs.Math.Dec.{eqb}
use Rattle.tables.specs.Limits.{most_queues}
use Rattle.tables.specs.Pool.{arc_at}
use Rattle.tables.specs.Lookup.{ArcsSmall}
use Rattle.tables.specs.Laws.Lookup.{arc_small}
use Rattle.theory_exploration.specs.Explore.{IsEquality, fresh, first_by}
use Rattle.theory_exploration.specs.Mem.{Mem, All, Distinct, Ascending}
use Rattle.theory_exploration.specs.Laws.Mem.{all_none, all_join}
use Rattle.theory_exploration.specs.Laws.Fresh.{Apart, fresh_all, fresh_apart, fresh_has, fresh_only}
use Rattle.theory_exploration.specs.Laws.Expand.{Steady, Ordered, expand_keeps, expand_all, expand_ordered, expand_extends}
use Rattle.theory_exploration.specs.Laws.First.{first_has_it, none_has}
use Rattle.theory_exploration.specs.Laws.Size.{at_most, below, below_length, below_each}
use Rattle.reading_order.specs.Nodes.{wrong, ranks, node_of, most_nodes, rank_after, arc_nodes, queue_nodes, next_nodes, fails}
use Rattle.theory_exploration.specs.Growing.{grown}
use Rattle.reading_order.specs.Search.{reached, none_fails}
use Rattle.reading_order.specs.Laws.Paths.{Path, stay, on}
use Rattle.theory_exploration.specs.Laws.Gather.{gather_is}

-- PATHS: one node more at the end
pub path_snoc : {arcs counts : List ℕ} {queues j k l : ℕ} → Path arcs counts queues j k → Mem l (next_nodes arcs counts queues k)
    → Path arcs counts queues j l
path_snoc stay m = on m stay
path_snoc (on n p) m = on n (path_snoc p m)

-- NUMBERS OF NODES: arcs lead to states and queues are few, so each next node has a number below the most
abbrev Below : ℕ → Type 0
Below k = k < most_nodes

pub after_below : (r q : ℕ) → q < most_queues → rank_after r q < ranks
after_below r q h = by_test (ltb q r)
  where
    by_test : (b : Bool) → cond b wrong q < ranks
    by_test true = omega arith
    by_test false = omega arith

arc_nodes_below : {arcs : List ℕ} → ArcsSmall arcs → (s r left m : ℕ) → r < ranks → All Below (arc_nodes arcs s r left m)
arc_nodes_below {arcs} small s r left m h k i =
    let (n, l, u, e) = gather_is _ left m k i in
    let (t, a, x) = (map-eq-some_iff (λ t. node_of t r) (arc_at arcs s n)).0 e in
    omega (arith, arc_small _ n small a)

queue_nodes_below : {arcs : List ℕ} → ArcsSmall arcs → (s r : ℕ) (counts : List ℕ) (left q first : ℕ) → q + left ≤ most_queues
    → All Below (queue_nodes arcs s r counts left q first)
unfolding queue_nodes
queue_nodes_below small s r counts zero q first h = all_none Below
queue_nodes_below {arcs} small s r counts (suc left) q first h =
    all_join Below (arc_nodes arcs s (rank_after r q) (get_or counts q 0) first) (queue_nodes arcs s r counts left (q + 1) (first + get_or counts q 0))
    (arc_nodes_below small s (rank_after r q) (get_or counts q 0) first (after_below r q (omega arith)))
    (queue_nodes_below small s r counts left (q + 1) (first + get_or counts q 0) (omega arith))

pub next_below : {arcs : List ℕ} (counts : List ℕ) {queues : ℕ} → ArcsSmall arcs → queues ≤ most_queues → (k : ℕ) → k < most_nodes
    → (l : ℕ) → Mem l (next_nodes arcs counts queues k) → l < most_nodes
next_below counts {queues} small few k h = queue_nodes_below small (k / ranks) (k % ranks) counts queues 0 0 (omega arith)

-- NO NUMBER TWICE, in both forms that are used
apart_distinct : (l : List ℕ) → Apart (λ k. k) l → Distinct l
apart_distinct [] a = tt
apart_distinct (x ∷ l) a = (λ m. a.0 x m refl, apart_distinct l a.1)

distinct_apart : (l : List ℕ) → Distinct l → Apart (λ k. k) l
distinct_apart [] d = tt
distinct_apart (x ∷ l) d = (λ y m e. d.0 (Memᴰ.cast e m), distinct_apart l d.1)

-- numbers below n, each once, are at most n
few_below : (n : ℕ) (l : List ℕ) → Distinct l → All (λ k. k < n) l → length l ≤ n
few_below n l d all = subst (λ m. length l ≤ m) (below_length n) (at_most l (below n) d (λ k m. below_each n k (all k m)))

-- THE TEST of equality, and an order in which all numbers stand, as nothing is asked of the order here
eqb_equality : IsEquality eqb
eqb_equality x y = (eqb-true x y, eq-eqb x y)

abbrev Any : ℕ → ℕ → Type 0
Any j k = Unit {0}

any_ascends : (l : List ℕ) → Ascending Any l
any_ascends [] = tt
any_ascends (x ∷ l) = (λ y m. tt, any_ascends l)

any_steady : (children : ℕ → List ℕ) → Steady children Any
any_steady children =
    record {
      transitive = λ e f g a b. tt;
      child_after = λ e c m. tt;
      children_follow = λ e f c d a m n. tt;
      children_ascend = λ e. any_ascends (children e);
    }

-- NODES THAT ARE ADDED
pub grown_distinct : (L new : List ℕ) → Distinct L → Distinct (grown L new)
grown_distinct L new d = apart_distinct (grown L new) (fresh_apart (λ k. k) eqb eqb_equality L new (distinct_apart L d))

pub grown_all : (P : ℕ → Type 0) (L new : List ℕ) → All P L → All P new → All P (grown L new)
grown_all P L new p q = fresh_all (λ k. k) eqb eqb_equality P L new q p

pub grown_has : (L new : List ℕ) (k : ℕ) → Mem k L ⊎ Mem k new → Mem k (grown L new)
grown_has L new k (inl m) = Memᴰ.append_left (fresh (λ k. k) eqb L new) m
grown_has L new k (inr m) =
    let t = fresh_has (λ k. k) eqb eqb_equality Any L new (any_ascends new) k m (λ f n. tt) in
    Memᴰ.cast (sym t.2) t.1

pub grown_only : (L new : List ℕ) (k : ℕ) → Mem k (grown L new) → Mem k L ⊎ Mem k new
grown_only L new k m =
    ⊎_elim inl (λ n. inr (fresh_only (λ k. k) eqb eqb_equality L new k n)) (Memᴰ.append_cases L m)

-- WHAT IS REACHED from nodes that stand once each
module _ (arcs counts : List ℕ) (queues : ℕ) (small : ArcsSmall arcs) (few : queues ≤ most_queues) (L : List ℕ) (apart : Distinct L)
    (below : (k : ℕ) → Mem k L → k < most_nodes) where
  abbrev next : ℕ → List ℕ
  next = next_nodes arcs counts queues

  abbrev all : List ℕ
  all = reached arcs counts queues L

  abbrev From : ℕ → Type 0
  From k = (j : ℕ) × Mem j L × Path arcs counts queues j k

  pub reached_sound : (k : ℕ) → Mem k (reached arcs counts queues L) → (j : ℕ) × Mem j L × Path arcs counts queues j k
  unfolding reached
  reached_sound =
      expand_all (λ k. k) eqb eqb_equality next From (λ e c t m. (t.0, t.1, path_snoc t.2 m)) most_nodes [] L (λ k m. (k, m, stay))

  reached_below : All Below all
  unfolding reached
  reached_below = expand_all (λ k. k) eqb eqb_equality next Below (λ e c b m. next_below counts small few e b c m) most_nodes [] L below

  reached_distinct : Distinct all
  unfolding reached
  reached_distinct =
      apart_distinct all
      (expand_keeps (λ k. k) eqb next (Apart (λ k. k)) (λ Q e m. fresh_apart (λ k. k) eqb eqb_equality Q (next e)) most_nodes [] L
      (distinct_apart L apart))

  pub reached_most : length (reached arcs counts queues L) ≤ most_nodes
  reached_most = few_below most_nodes all reached_distinct reached_below

  -- so all of it is done, and what it leads to is there
  reached_closed : (j k : ℕ) → Mem j all → Mem k (next j) → Mem k all
  unfolding reached
  reached_closed j k m n =
      let begun : Ordered (λ k. k) next Any [] L =
      record { ascends = any_ascends L; ahead = λ f e c m n o. tt; closed = λ e c m. absurd (Memᴰ.not-nil m) } in
      let done : Ordered (λ k. k) next Any all [] =
      expand_ordered (λ k. k) eqb eqb_equality next Any (any_steady next) most_nodes [] L begun reached_most in
      let t = done.closed j k m n in
      Memᴰ.cast (sym t.2) (rw append-nil at t.1)

  reached_along : {j k : ℕ} → Mem j all → Path arcs counts queues j k → Mem k all
  reached_along m stay = m
  reached_along {j} m (on {k = k} n p) = reached_along (reached_closed j k m n) p

  reached_begins : (j : ℕ) → Mem j L → Mem j all
  unfolding reached
  reached_begins j m =
      let t = expand_extends (λ k. k) eqb next most_nodes [] L in
      rw t.1 (Memᴰ.append_left t.0 m)

  pub reached_complete : (j k : ℕ) → Mem j L → Path arcs counts queues j k → Mem k (reached arcs counts queues L)
  reached_complete j k m p = reached_along (reached_begins j m) p

  -- THE TEST, either way
  pub fails_found : (finals : List ℕ) → none_fails arcs finals counts queues L ≡ false
      → (j k : ℕ) × Mem j L × Path arcs counts queues j k × (fails finals k ≡ true)
  unfolding none_fails
  fails_found finals h = by_first (first_by (fails finals) all) refl h
    where
      by_first : (o : Option ℕ) → first_by (fails finals) all ≡ o → elim o [ none ↦ true | some k ↦ false ] ≡ false
          → (j k : ℕ) × Mem j L × Path arcs counts queues j k × (fails finals k ≡ true)
      by_first none e h = absurd (true≢false h)
      by_first (some k) e h =
          let f = first_has_it (fails finals) all k e in
          let t = reached_sound k f.1 in
          (t.0, k, t.1, t.2, f.0)

  pub none_found : (finals : List ℕ) → none_fails arcs finals counts queues L ≡ true
      → (j k : ℕ) → Mem j L → Path arcs counts queues j k → fails finals k ≡ true → ⊥
  unfolding none_fails
  none_found finals h j k m p t = by_first (first_by (fails finals) all) refl h
    where
      by_first : (o : Option ℕ) → first_by (fails finals) all ≡ o → elim o [ none ↦ true | some k ↦ false ] ≡ true → ⊥
      by_first none e h = none_has (fails finals) all e k (reached_complete j k m p) t
      by_first (some i) e h = true≢false (sym h)
