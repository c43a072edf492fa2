-- The tables as nodes are found: one more node, the steps of a loop over nodes still to be found, and the nodes queue by queue.
use Rattle.std.specs.Prelude.{ℕ, zero, suc, ◌+◌, ◌-◌, ◌≤◌, ◌<◌, ◌≡◌, refl, false, not, List, [], ◌∷◌, ◌++◌, length, get_or, set, take, replicate}
use Rattle.std.proofs.Common.{sym, subst, ◌∙◌, length-set, get_or-set_same, get_or-set_other, eq-eqb, ne_eqb, arith, sub-eq-zero_of_le}
use Rattle.std.proofs.Math.Path.{ap}
use Rattle.std.proofs.Math.Option.{Option, none, some, map}
use Rattle.std.proofs.lemmas.List.{length-replicate}
use Rattle.std.proofs.Math.Nat.{add-sub_cancel_left}
use Rattle.numbers.specs.Laws.Parts.{one_more_lem}
use Rattle.numbers.specs.Laws.Written.{at_or_other, zeros_hold}
use Rattle.tables.specs.Pool.{arc_from}
use Rattle.theory_exploration.specs.Marks.{mem, count}
use Rattle.theory_exploration.specs.Laws.Marks.{count_most, count_room, count_set, one_more_taken, one_more_known}
use Rattle.theory_exploration.specs.Growing.{gather}
use Rattle.reading_order.specs.Nodes.{wrong, ranks, most_nodes, node_of, rank_after, arc_nodes, queue_nodes}
use Rattle.theory_exploration.specs.Growing.{grown}
use Rattle.reading_order.specs.Found.{Found, Grows, arc_node, step_nodes}
use Rattle.theory_exploration.specs.Laws.Grown.{grown_none, grown_old, grown_new, grown_append}
use Rattle.theory_exploration.specs.Laws.Gather.{gather_skip, gather_on}
use Rattle.reading_order.specs.Laws.Reached.{after_below}

-- ONE MORE NODE
module _ {seen nodes : List ℕ} {n : ℕ} (F : Found seen nodes n) where
  pub found_most : n ≤ most_nodes
  found_most = omega (arith, F.counted, F.seen_long, count_most seen)

  -- a node that is marked
  pub found_old : (c : ℕ) → (get_or seen c 0 ≡ 0 → ⊥) → Grows seen nodes n (c ∷ []) seen nodes n
  found_old c e =
      let there = F.known c ∙ ap not (ne_eqb (get_or seen c 0) 0 e) in
      record { holds = F; is = sym (grown_old (take n nodes) c [] there ∙ grown_none (take n nodes)) }

  module _ (c : ℕ) (small : c < most_nodes) (e : get_or seen c 0 ≡ 0) where
    pub found_room : n < most_nodes
    found_room = omega (arith, F.counted, F.seen_long, count_room seen c (omega (arith, F.seen_long)) e)

    absent : mem c (take n nodes) ≡ false
    absent = F.known c ∙ ap not (eq-eqb (get_or seen c 0) 0 e)

    in_seen : c < length seen
    in_seen = omega (arith, F.seen_long)

    in_nodes : n < length nodes
    in_nodes = omega (arith, F.nodes_long, found_room)

    new_below : (i : ℕ) → i < n + 1 → get_or (set nodes n c) i 0 < most_nodes
    new_below i h =
        at_or_other (λ j. j < n + 1 → get_or (set nodes n c) j 0 < most_nodes) n i
        (λ g. omega (arith, get_or-set_same nodes n c 0 in_nodes))
        (λ z g. omega (arith, get_or-set_other nodes n i c 0 z, F.below i (omega arith))) h

    -- a node that is not goes to the end
    pub found_new : Grows seen nodes n (c ∷ []) (set seen c 1) (set nodes n c) (n + 1)
    found_new =
        record {
          holds =
              record {
                seen_long = length-set seen c 1 ∙ F.seen_long;
                nodes_long = length-set nodes n c ∙ F.nodes_long;
                counted = omega (arith, count_set seen c 0 in_seen e, F.counted);
                known = one_more_known seen nodes n c 0 in_nodes in_seen F.known;
                below = new_below;
              };
          is = one_more_taken seen nodes n c 0 in_nodes in_seen ∙ sym (grown_new (take n nodes) c [] absent ∙ grown_none (take n nodes ++ (c ∷ [])));
        }

-- what an arc adds, by where it leads
module _ (arcs : List ℕ) (row r m : ℕ) where
  pub adds_node : {t k : ℕ} → arc_from arcs row m ≡ some t → k ≡ node_of t r → k ∷ [] ≡ step_nodes (arc_node arcs row r m)
  adds_node e n = ap (λ k. k ∷ []) n ∙ sym (ap (λ x. step_nodes (map (λ t. node_of t r) x)) e)

  pub adds_none : arc_from arcs row m ≡ none → [] ≡ step_nodes (arc_node arcs row r m)
  adds_none e = sym (ap (λ x. step_nodes (map (λ t. node_of t r) x)) e)

-- the same nodes by another name
pub grows_as : {seen nodes new new' seen' nodes' : List ℕ} {n n' : ℕ} → new ≡ new'
    → Grows seen nodes n new seen' nodes' n' → Grows seen nodes n new' seen' nodes' n'
grows_as {seen} {nodes} {seen' = seen'} {nodes'} {n} {n'} e g = subst (λ l. Grows seen nodes n l seen' nodes' n') e g

-- nothing is found
pub grows_none : {seen nodes : List ℕ} {n : ℕ} → Found seen nodes n → Grows seen nodes n [] seen nodes n
grows_none {seen} {nodes} {n} F = record { holds = F; is = sym (grown_none (take n nodes)) }

-- what is gathered, by what its first number adds
pub gather_step : (f : ℕ → Option ℕ) {end i : ℕ} → i < end → gather f (end - i) i ≡ step_nodes (f i) ++ gather f (end - (i + 1)) (i + 1)
gather_step f {end} {i} h = by_node (f i) refl
  where
    by_node : (x : Option ℕ) → f i ≡ x → gather f (end - i) i ≡ step_nodes x ++ gather f (end - (i + 1)) (i + 1)
    by_node (some k) e = gather_on f h e
    by_node none e = gather_skip f h e

-- NO NODE: tables of zeros
count_zeros : (n : ℕ) → count (replicate n 0) ≡ 0
count_zeros zero = refl
count_zeros (suc n) = count_zeros n

pub found_none : (n : ℕ) → n ≡ most_nodes → Found (replicate n 0) (replicate n 0) 0
found_none n e =
    record {
      seen_long = length-replicate n 0 ∙ e;
      nodes_long = length-replicate n 0 ∙ e;
      counted = sym (count_zeros n);
      known = λ k. sym (ap not (eq-eqb (get_or (replicate n 0) k 0) 0 (zeros_hold n k)));
      below = λ i h. absurd (omega arith);
    }

-- A LOOP that finds a list of nodes: what is found, and what is left of the list
pub record Finding (nodes₀ : List ℕ) (n₀ : ℕ) (whole seen nodes : List ℕ) (n : ℕ) (left : List ℕ) : Type 0 where
  pub holds : Found seen nodes n
  pub is : grown (take n nodes) left ≡ grown (take n₀ nodes₀) whole

pub finding_begin : {seen nodes whole : List ℕ} {n : ℕ} → Found seen nodes n → Finding nodes n whole seen nodes n whole
finding_begin F = record { holds = F; is = refl }

module _ {nodes₀ whole seen nodes left : List ℕ} {n₀ n : ℕ} (W : Finding nodes₀ n₀ whole seen nodes n left) where
  pub finding_skip : {left' : List ℕ} → left ≡ left' → Finding nodes₀ n₀ whole seen nodes n left'
  finding_skip e = record { holds = W.holds; is = ap (grown (take n nodes)) (sym e) ∙ W.is }

  -- the first of them are found
  pub finding_part : {part left' seen' nodes' : List ℕ} {n' : ℕ} → Grows seen nodes n part seen' nodes' n' → left ≡ part ++ left'
      → Finding nodes₀ n₀ whole seen' nodes' n' left'
  finding_part {part} {left'} g e =
      record {
        holds = g.holds;
        is =
            ap (λ l. grown l left') g.is
            ∙ sym (grown_append (take n nodes) part left')
            ∙ ap (grown (take n nodes)) (sym e)
            ∙ W.is;
      }

  pub finding_end : {seen₀ : List ℕ} → left ≡ [] → Grows seen₀ nodes₀ n₀ whole seen nodes n
  finding_end e =
      record { holds = W.holds; is = sym (grown_none (take n nodes)) ∙ ap (grown (take n nodes)) (sym e) ∙ W.is }

-- THE NODES, queue by queue
pub rank_small : (r : ℕ) {q queues after : ℕ} → q < queues → queues ≤ wrong → after ≡ rank_after r q → after < ranks
rank_small r {q} h l e = omega (arith, after_below r q (omega arith))

module _ (arcs : List ℕ) (s r : ℕ) (counts : List ℕ) (first : ℕ) {queues q : ℕ} where
  pub queues_on : {after end : ℕ} → q < queues → after ≡ rank_after r q → end ≡ first + get_or counts q 0
      → queue_nodes arcs s r counts (queues - q) q first
      ≡ arc_nodes arcs s after (end - first) first ++ queue_nodes arcs s r counts (queues - (q + 1)) (q + 1) end
  unfolding queue_nodes
  queues_on h a e = rw (one_more_lem h, a, e, add-sub_cancel_left, queue_nodes)

  pub queues_end : queues ≤ q → queue_nodes arcs s r counts (queues - q) q first ≡ []
  unfolding queue_nodes
  queues_end h = ap (λ i. queue_nodes arcs s r counts i q first) (sub-eq-zero_of_le h)
