-- The nodes are taken one after the other: those taken do not fail, and what is reached from all is what was reached from the first.
use Prim.Native.Nat.{ℕ, ◌+◌, ◌-◌, ◌/◌, ◌%◌, ◌≤◌, ◌<◌}
use Rattle.std.specs.Prelude.{◌≡◌, refl, Bool, true, false, eqb, length, get_or, take}
use Rattle.std.proofs.Math.Path.{sym, ap}
use Rattle.std.proofs.Common.{ap₂, ◌∙◌, length-append, eq-eqb, ne_eqb, arith}
use Rattle.std.proofs.Math.Option.{none, some}
use mathlib.Core.List.{List, [], ◌∷◌, ◌++◌, append_assoc}
use Rattle.std.proofs.Math.Nat.{sub-zero}
use Rattle.tables.specs.Kinds.{reached_of}
use Rattle.tables.specs.Lookup.{final_at}
use Rattle.tables.specs.Laws.Lookup.{reached_small}
use Rattle.tables.specs.declared.tables.Queues.{Queues}
use Rattle.tables.specs.declared.tables.Pool.{Pool}
use Rattle.tables.specs.declared.tables.SetTables.{SetTables}
use Rattle.theory_exploration.specs.Explore.{fresh, expand, first_by}
use Rattle.theory_exploration.specs.Laws.Mem.{append_move}
use Rattle.theory_exploration.specs.Laws.Expand.{expand_extends}
use Rattle.theory_exploration.specs.Laws.Front.{expand_on, front_next, front_end}
use Rattle.theory_exploration.specs.Laws.Fuel.{expand_nothing}
use Rattle.theory_exploration.specs.Laws.First.{first_here, first_skip, first_append}
use Rattle.reading_order.specs.Nodes.{wrong, ranks, most_nodes, root_nodes, bad_nodes, fails}
use Rattle.theory_exploration.specs.Growing.{grown}
use Rattle.reading_order.specs.Search.{reached, none_fails, in_queue_order}
use Rattle.reading_order.specs.Found.{Found, Grows}
use Rattle.reading_order.specs.Laws.Finding.{found_most}

-- WHETHER A NODE FAILS
module _ (finals : List ℕ) (k : ℕ) where
  pub fails_wrong : {at : ℕ} {r : Bool} → k % ranks ≡ wrong → at ≡ k / ranks → k < most_nodes → r ≡ final_at finals (reached_of at)
      → r ≡ fails finals k
  fails_wrong {at} w a h e =
      let s : reached_of at ≡ some (k / ranks) = reached_small (omega arith) ∙ ap some a in
      e ∙ ap (final_at finals) s ∙ sym (ap (λ b. elim b [ true ↦ final_at finals (some (k / ranks)) | false ↦ false ]) (eq-eqb (k % ranks) wrong w))

  pub fails_not : (k % ranks ≡ wrong → ⊥) → false ≡ fails finals k
  fails_not n = sym (ap (λ b. elim b [ true ↦ final_at finals (some (k / ranks)) | false ↦ false ]) (ne_eqb (k % ranks) wrong n))

-- THE LOOP: those done are the nodes before place k, and what is reached from here is all that is reached
pub record Testing (next : ℕ → List ℕ) (p : ℕ → Bool) (all seen nodes : List ℕ) (n k : ℕ) : Type 0 where
  pub holds : Found seen nodes n
  pub done : List ℕ
  pub todo : List ℕ
  pub whole : take n nodes ≡ done ++ todo
  pub taken : length done ≡ k
  pub fine : first_by p done ≡ none
  pub is : expand (λ k. k) eqb next (most_nodes - k) done todo ≡ all

module _ {next : ℕ → List ℕ} {p : ℕ → Bool} where
  pub testing_begin : {seen nodes : List ℕ} {n : ℕ} → Found seen nodes n
      → Testing next p (expand (λ k. k) eqb next most_nodes [] (take n nodes)) seen nodes n 0
  testing_begin {seen} {nodes} {n} F =
      record {
        holds = F;
        done = [];
        todo = take n nodes;
        whole = refl;
        taken = refl;
        fine = refl;
        is = ap (λ i. expand (λ k. k) eqb next i [] (take n nodes)) (sub-zero most_nodes);
      }

  module _ {all seen nodes : List ℕ} {n k : ℕ} (T : Testing next p all seen nodes n k) where
    in_nodes : n ≤ length nodes
    in_nodes = omega (arith, found_most T.holds, T.holds.nodes_long)

    -- the node that is taken next
    next_is : k < n → (t : List ℕ) × (T.todo ≡ get_or nodes k 0 ∷ t)
    next_is h = front_next nodes T.done T.todo n k in_nodes T.whole T.taken h

    -- ALL ARE TAKEN
    pub testing_end : n ≤ k → first_by p all ≡ none
    testing_end h =
        ap (first_by p)
        (sym T.is ∙ ap (expand (λ k. k) eqb next (most_nodes - k) T.done) (front_end nodes T.done T.todo n k in_nodes T.whole T.taken h)
        ∙ expand_nothing (λ k. k) eqb next (most_nodes - k) T.done)
        ∙ T.fine

    module _ (h : k < n) where
      -- ONE FAILS
      pub testing_fails : p (get_or nodes k 0) ≡ true → first_by p all ≡ some (get_or nodes k 0)
      testing_fails f =
          let r = next_is h in
          let x : ℕ = get_or nodes k 0 in
          let more = expand_extends (λ k. k) eqb next (most_nodes - k) T.done T.todo in
          ap (first_by p)
          (sym T.is ∙ more.1 ∙ ap (λ l. (T.done ++ l) ++ more.0) r.1 ∙ append_assoc T.done (x ∷ r.0) more.0)
          ∙ first_append p T.done (x ∷ (r.0 ++ more.0)) T.fine
          ∙ first_here p x (r.0 ++ more.0) f

      -- ONE DOES NOT, and all that it leads to is found
      pub testing_next : {seen' nodes' : List ℕ} {n' : ℕ} → p (get_or nodes k 0) ≡ false
          → Grows seen nodes n (next (get_or nodes k 0)) seen' nodes' n' → Testing next p all seen' nodes' n' (k + 1)
      testing_next f g =
          let r = next_is h in
          let x : ℕ = get_or nodes k 0 in
          let Q : take n nodes ≡ T.done ++ (x ∷ r.0) = T.whole ∙ ap (λ l. T.done ++ l) r.1 in
          let new : List ℕ = fresh (λ k. k) eqb (T.done ++ (x ∷ r.0)) (next x) in
          record {
            holds = g.holds;
            done = T.done ++ (x ∷ []);
            todo = r.0 ++ new;
            whole = g.is ∙ ap (λ l. grown l (next x)) Q ∙ sym (append_move T.done x r.0 new);
            taken = omega (arith, length-append T.done (x ∷ []), T.taken);
            fine = first_append p T.done (x ∷ []) T.fine ∙ first_skip p x [] f;
            is =
                sym (ap (expand (λ k. k) eqb next (most_nodes - k) T.done) r.1
                ∙ expand_on next T.done x r.0 (omega (arith, found_most T.holds)))
                ∙ T.is;
          }

-- WHAT IS SAID of the nodes
module _ (arcs finals counts : List ℕ) (queues : ℕ) (L : List ℕ) where
  pub none_is : first_by (fails finals) (reached arcs counts queues L) ≡ none → true ≡ none_fails arcs finals counts queues L
  unfolding none_fails
  none_is e = rw (e, none_fails)

  pub some_is : {k : ℕ} → first_by (fails finals) (reached arcs counts queues L) ≡ some k → false ≡ none_fails arcs finals counts queues L
  unfolding none_fails
  some_is e = rw (e, none_fails)

-- THE TEST: the roots are found, then those of the bad entries
module _ (q : Queues) (P : Pool) (controls : ℕ) (D : SetTables) where
  pub order_is : {arcs finals seen₀ nodes₀ seen₁ nodes₁ seen₂ nodes₂ : List ℕ} {n₁ n₂ : ℕ} {r : Bool} → P.finals ≡ finals → P.arcs ≡ arcs
      → Grows seen₀ nodes₀ 0 (root_nodes D.map.roots controls 0) seen₁ nodes₁ n₁
      → Grows seen₁ nodes₁ n₁ (bad_nodes D.bad.rows D.bad.count 0) seen₂ nodes₂ n₂
      → r ≡ none_fails arcs finals q.messages q.count (take n₂ nodes₂)
      → r ≡ in_queue_order q P controls D
  unfolding in_queue_order
  order_is {arcs} {finals} f a g h e =
      let bad : List ℕ = bad_nodes D.bad.rows D.bad.count 0 in
      e
      ∙ ap (none_fails arcs finals q.messages q.count) (h.is ∙ ap (λ l. grown l bad) g.is)
      ∙ sym (ap₂ (λ x y. none_fails x y q.messages q.count (grown (grown [] (root_nodes D.map.roots controls 0)) bad)) a f)
