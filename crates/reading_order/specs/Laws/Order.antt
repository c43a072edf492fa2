-- THE TEST OF QUEUE ORDER IS RIGHT, both ways: it fails exactly if a word that is accepted from a root is out of order.
use Rattle.std.specs.Prelude.{ℕ, ◌+◌, ◌*◌, ◌≤◌, ◌<◌, ◌≡◌, refl, ◌⊎◌, ◌↔◌, Bool, true, false, List, [], length, get_or, take, ltb, eqb}
use Rattle.std.proofs.Common.{zero-le, sym, ap, ap₂, subst, ◌∙◌, inl, inr, ⊎_elim, length-take-le, ltb-true, ltb-false, eqb-true, eq-eqb, arith}
use Rattle.std.proofs.Math.Option
use Rattle.std.proofs.Math.Option.{Option, none, some, map-eq-some_iff, some-injective}
use mathlib.Core.List.Memᴰ
use Rattle.tables.specs.Limits.{most_queues}
use Rattle.tables.specs.Lookup.{root_of, final_at}
use Rattle.tables.specs.Valid.{QueuesValid, PoolValid, SetsValid}
use Rattle.tables.specs.Laws.Lookup.{root_entry, arcs_small}
use Rattle.tables.specs.declared.tables.Queues.{Queues}
use Rattle.tables.specs.declared.tables.Pool as Declared
use Rattle.tables.specs.declared.tables.SetTables.{SetTables}
use Rattle.theory_model.specs.Model.{total, Between}
use Rattle.theory_model.specs.Diagram.{follow, is_final, accepts}
use Rattle.theory_model.specs.Laws.Basics.{by_test, false_not_true}
use Rattle.theory_model.specs.Laws.Ordered.{followed_between}
use Rattle.theory_exploration.specs.Mem.{Mem, Distinct}
use Rattle.reading_order.specs.Nodes.{wrong, ranks, node_of, most_nodes, root_nodes, bad_nodes, fails}
use Rattle.theory_exploration.specs.Growing.{grown}
use Rattle.reading_order.specs.Search.{in_queue_order}
use Rattle.reading_order.specs.Order.{Root, of_control, of_entry, Disordered}
use Rattle.theory_tables.specs.Pool.{pool_of}
use Rattle.theory_exploration.specs.Laws.Gather.{gather_has, gather_is}
use Rattle.reading_order.specs.Laws.Paths.{Path}
use Rattle.theory_tables.specs.Laws.Queues.{messages_are}
use Rattle.theory_tables.specs.Laws.Arcs.{arc_within}
use Rattle.reading_order.specs.Laws.Ranks.{rank_along, rank_wrong, rank_below}
use Rattle.reading_order.specs.Laws.Words.{node_state, node_rank, path_word, word_path}
use Rattle.reading_order.specs.Laws.Reached.{grown_distinct, grown_has, grown_only, fails_found, none_found}

-- A NODE FAILS exactly if its rank is wrong and its state is final
abbrev fails_at : List ℕ → ℕ → ℕ → Bool
fails_at finals t r = elim (eqb r wrong) [ true ↦ final_at finals (some t) | false ↦ false ]

fails_node : (finals : List ℕ) (t r : ℕ) → r < ranks → fails finals (node_of t r) ≡ fails_at finals t r
fails_node finals t r h = ap₂ (fails_at finals) (node_state t r h) (node_rank t r h)

fails_means : (finals : List ℕ) (t r : ℕ) → r < ranks → fails finals (node_of t r) ≡ true → (r ≡ wrong) × (final_at finals (some t) ≡ true)
fails_means finals t r h e = by_rank (eqb r wrong) refl (sym (fails_node finals t r h) ∙ e)
  where
    by_rank : (b : Bool) → eqb r wrong ≡ b → elim b [ true ↦ final_at finals (some t) | false ↦ false ] ≡ true
        → (r ≡ wrong) × (final_at finals (some t) ≡ true)
    by_rank true f g = (eqb-true r wrong f, g)
    by_rank false f g = false_not_true refl g

wrong_fails : (finals : List ℕ) (t r : ℕ) → r ≡ wrong → final_at finals (some t) ≡ true → fails finals (node_of t r) ≡ true
wrong_fails finals t r e f =
    fails_node finals t r (omega arith)
    ∙ ap (λ (b : Bool). elim b [ true ↦ final_at finals (some t) | false ↦ false ]) (eq-eqb r wrong e)
    ∙ f

module _ (q : Queues) (P : Declared.Pool) (controls : ℕ) (D : SetTables) (Q : QueuesValid q) (G : PoolValid q.sum P)
    (S : SetsValid controls P.count D) where
  abbrev ns : List ℕ
  ns = take q.count q.messages

  abbrev map_roots : List ℕ
  map_roots = root_nodes D.map.roots controls 0

  abbrev bad_roots : List ℕ
  bad_roots = bad_nodes D.bad.rows D.bad.count 0

  abbrev starts : List ℕ
  starts = grown (grown [] map_roots) bad_roots

  -- THE SEARCH STARTS at the roots with rank 0, and nowhere else
  start_root : (j : ℕ) → Mem j starts → (s : ℕ) × Root D s × (j ≡ node_of s 0)
  start_root j i =
      ⊎_elim (λ m. of_map (grown_only [] map_roots j m)) of_bad (grown_only (grown [] map_roots) bad_roots j i)
    where
      of_map : Mem j [] ⊎ Mem j map_roots → (s : ℕ) × Root D s × (j ≡ node_of s 0)
      of_map (inl m) = absurd (Memᴰ.not-nil m)
      of_map (inr m) =
          let (c, l, h, e) = gather_is _ controls 0 j m in
          let (s, a, x) = (map-eq-some_iff (λ s. node_of s 0) (root_of D.map.roots c)).0 e in
          (s, of_control c a, sym x)

      of_bad : Mem j bad_roots → (s : ℕ) × Root D s × (j ≡ node_of s 0)
      of_bad m =
          let (b, l, h, e) = gather_is _ D.bad.count 0 j m in
          (get_or D.bad.rows (b * 2 + 1) 0, of_entry b (omega arith) refl, sym (some-injective _ _ e))

  -- from `controls` on the map has no roots
  root_start : (s : ℕ) → Root D s → Mem (node_of s 0) starts
  root_start s (of_control c e) =
      grown_has (grown [] map_roots) bad_roots (node_of s 0)
      (inl (grown_has [] map_roots (node_of s 0)
      (inr (gather_has _ controls 0 c (node_of s 0) (ap (Option.map (λ s. node_of s 0)) e) zero-le (within (ltb c controls) refl)))))
    where
      within : (b : Bool) → ltb c controls ≡ b → c < 0 + controls
      within true t = omega (arith, ltb-true c controls t)
      within false t = absurd (omega (arith, root_entry D.map.roots c e, S.map.rest c (ltb-false c controls t)))
  root_start s (of_entry b h e) =
      grown_has (grown [] map_roots) bad_roots (node_of s 0)
      (inr (gather_has _ D.bad.count 0 b (node_of s 0) (ap (λ x. some (node_of x 0)) e) zero-le (omega arith)))

  -- every root is a state of the pool, so its node has a number below the most
  root_state : (s : ℕ) → Root D s → s < P.count
  root_state s (of_control c e) = omega (arith, root_entry D.map.roots c e, S.map.roots c)
  root_state s (of_entry b h e) = omega (arith, S.bad.root b h)

  starts_below : (k : ℕ) → Mem k starts → k < most_nodes
  starts_below k i = let (s, r, e) = start_root k i in omega (arith, root_state s r, G.most)

  starts_distinct : Distinct starts
  starts_distinct = grown_distinct (grown [] map_roots) bad_roots (grown_distinct [] map_roots tt)

  -- WORDS that can be followed are of messages of the queues, so their rank tells whether they are in order
  few : length ns ≤ most_queues
  few = omega (arith, length-take-le q.count q.messages (omega (arith, Q.most, Q.long)), Q.most)

  follow_between : (s t : ℕ) (u : List ℕ) → follow (pool_of P) (some s) u ≡ some t → Between 0 (total ns) u
  follow_between =
      followed_between (pool_of P) (total ns) (λ s m t e. omega (arith, messages_are Q, (arc_within P G s m t e).message))

  accepted_end : (s : ℕ) (u : List ℕ) → accepts (pool_of P) (some s) u ≡ true
      → (t : ℕ) × (follow (pool_of P) (some s) u ≡ some t) × (final_at P.finals (some t) ≡ true)
  accepted_end s u e = by_end (follow (pool_of P) (some s) u) refl e
    where
      by_end : (o : Option ℕ) → follow (pool_of P) (some s) u ≡ o → is_final (pool_of P) o ≡ true
          → (t : ℕ) × (follow (pool_of P) (some s) u ≡ some t) × (final_at P.finals (some t) ≡ true)
      by_end none f g = false_not_true refl g
      by_end (some t) f g = (t, f, g)

  -- A NODE THAT FAILS on a path from a root is a word out of order
  failing_word : (s : ℕ) → Root D s → (u : List ℕ) (t : ℕ) → follow (pool_of P) (some s) u ≡ some t
      → fails P.finals (node_of t (rank_along ns 0 u)) ≡ true → Disordered q P D
  failing_word s r u t f e =
      let b = follow_between s t u f in
      let (w, g) = fails_means P.finals t (rank_along ns 0 u) (rank_below ns u 0 few b (omega arith)) e in
      record { root = s; listed = r; word = u; accepted = ap (is_final (pool_of P)) f ∙ g; back = (rank_wrong ns u few b).0 w }

  failing_path : (j k : ℕ) → Mem j starts → Path P.arcs q.messages q.count j k → fails P.finals k ≡ true → Disordered q P D
  failing_path j k i p e =
      let (s, r, f) = start_root j i in
      let (u, t, g, h) = path_word q P Q G s 0 (omega arith) k (subst (λ x. Path P.arcs q.messages q.count x k) f p) in
      failing_word s r u t g (ap (fails P.finals) (sym h) ∙ e)

  -- and a word out of order is such a node
  disordered_node : Disordered q P D
      → (j k : ℕ) × Mem j starts × Path P.arcs q.messages q.count j k × (fails P.finals k ≡ true)
  disordered_node d =
      let (t, f, g) = accepted_end d.root d.word d.accepted in
      let w = (rank_wrong ns d.word few (follow_between d.root t d.word f)).1 d.back in (
        node_of d.root 0,
        node_of t (rank_along ns 0 d.word),
        root_start d.root d.listed,
        word_path q P Q G d.root 0 (omega arith) d.word t f,
        wrong_fails P.finals t (rank_along ns 0 d.word) w g,
      )

  -- THE TEST IS RIGHT, both ways
  found_disordered : in_queue_order q P controls D ≡ false → Disordered q P D
  unfolding in_queue_order
  found_disordered h =
      let (j, k, i, p, e) =
      fails_found P.arcs q.messages q.count (arcs_small G) Q.most starts starts_distinct starts_below P.finals h in
      failing_path j k i p e

  ordered_none : in_queue_order q P controls D ≡ true → Disordered q P D → ⊥
  unfolding in_queue_order
  ordered_none h d =
      let (j, k, i, p, e) = disordered_node d in
      none_found P.arcs q.messages q.count (arcs_small G) Q.most starts starts_distinct starts_below P.finals h j k i p e

  pub disordered_is : (in_queue_order q P controls D ≡ false) ↔ Disordered q P D
  disordered_is = (
    found_disordered,
    λ d. by_test (in_queue_order q P controls D) (λ t. absurd (ordered_none t d)) (λ f. f),
  )

  pub ordered_is : (in_queue_order q P controls D ≡ true) ↔ (Disordered q P D → ⊥)
  ordered_is = (
    ordered_none,
    λ n. by_test (in_queue_order q P controls D) (λ t. t) (λ f. absurd (n (found_disordered f))),
  )
