-- The states of the pool stand for the start and the sets, place by place: a word leads in the pool to the place of what it leads to.
use Rattle.std.specs.Prelude.{◌≡◌, refl, Bool, true, false, cond, ℕ, suc, ◌+◌, ◌-◌, ◌*◌, ◌/◌, ◌%◌, ◌≤◌, ◌<◌, eqb, ltb, length, get_or, replicate}
use Rattle.std.proofs.Common.{sym, ap, subst, ◌∙◌, arith, eqb-true, eq-eqb, ne_eqb, ltb-true, lt-ltb}
use Rattle.std.proofs.Math.Option.{Option, none, some}
use mathlib.Core.List.Memᴰ
use mathlib.Core.List.{List, [], ◌∷◌, ◌++◌, reverse, reverse_aux}
use Rattle.std.proofs.lemmas.Bool.{eqb-false}
use Rattle.std.proofs.lemmas.List.{length-replicate, length-map}
use Rattle.theory_exploration.specs.Mem.{Mem, here, there, Distinct}
use Rattle.theory_exploration.specs.Explore.{Entry, IsEquality, explore, reach}
use Rattle.theory_exploration.specs.Explore as Explore
use Rattle.theory_exploration.specs.Laws.Mem.{mem_map}
use Rattle.theory_exploration.specs.Laws.Expand.{expand_extends}
use Rattle.theory_exploration.specs.Laws.Meaning.{distinct, complete}
use Rattle.theory_model.specs.Diagram as Diagram
use Rattle.theory_model.specs.Laws.Basics.{by_test}
use Rattle.tables.specs.Limits.{most_messages, most_pool}
use Rattle.tables.specs.Pool.{pool_arcs, arc_at}
use Rattle.tables.specs.Lookup.{final_at}
use Rattle.theory_tables.specs.Pool.{pool_of, arc_of}
use Rattle.theory_exploration.specs.Growing.{gather}
use Rattle.theory_occurrences.specs.Positions.{Automaton, after, move, ends}
use Rattle.expression_states.specs.States.{place_from}
use Rattle.expression_states.specs.Laws.Numbering.{nodes_are}
use Rattle.expression_pool.specs.Filled.{arc_to, arc_entry, final_mark, pool_for}
use Rattle.expression_pool.specs.Laws.Entries.{entries_at}
use Rattle.expression.specs.Expression.{states}

pub eqb_equality : IsEquality eqb
eqb_equality x y = (eqb-true x y, eq-eqb x y)

-- A SET AMONG THE STATES has its place
pub record Place (N : List ℕ) (i y : ℕ) : Type 0 where
  pub at : ℕ
  pub within : at < length N
  pub there_it_is : get_or N at 0 ≡ y
  pub is : place_from i N y ≡ i + at + 1

pub place_is : (N : List ℕ) (i y : ℕ) → Mem y N → Place N i y
place_is [] i y m = elim m [ ]
place_is (x ∷ N) i y m =
    by_test (eqb x y)
    (λ t.
    record {
      at = 0;
      within = omega arith;
      there_it_is = eqb-true x y t;
      is = ap (λ b. cond b (i + 1) (place_from (i + 1) N y)) t ∙ (let e : i + 1 ≡ i + 0 + 1 = omega arith in e);
    })
    (λ t. later t (place_is N (i + 1) y (tail t m)))
  where
    tail : eqb x y ≡ false → Mem y (x ∷ N) → Mem y N
    tail t (here e) = absurd (eqb-false x y t (sym e))
    tail t (there n) = n

    later : eqb x y ≡ false → Place N (i + 1) y → Place (x ∷ N) i y
    later t p =
        record {
          at = suc p.at;
          within = omega (arith, p.within);
          there_it_is = p.there_it_is;
          is =
              ap (λ b. cond b (i + 1) (place_from (i + 1) N y)) t ∙ p.is
              ∙ (let e : i + 1 + p.at + 1 ≡ i + suc p.at + 1 = omega arith in e);
        }

-- WHAT STANDS FOR WHAT: nowhere for nowhere, a place for the node there
pub data Stands (N : List ℕ) : Option ℕ → Option ℕ → Type 0 where
  nowhere : Stands N none none
  at : {x i : ℕ} → i < length N → get_or N i 0 ≡ x → Stands N (some x) (some i)

-- an entry as a target
abbrev target : ℕ → Option ℕ
target e = cond (eqb e 0) none (some (e - 1))

module _ (A : Automaton) (few : length (states A) ≤ most_pool) where
  abbrev N : List ℕ
  N = states A

  abbrev P : Diagram.Pool
  P = pool_of (pool_for A N)

  -- THE TABLES
  arc_is : (i m : ℕ) → i < length N → m < most_messages → arc_of (pool_for A N).arcs i m ≡ target (arc_to N (after A (get_or N i 0) m))
  arc_is i m h l =
      let q : (i * most_messages + m) / most_messages ≡ i = omega arith in
      let r : (i * most_messages + m) % most_messages ≡ m = omega arith in
      let e : get_or (pool_for A N).arcs (i * most_messages + m) 0 ≡ arc_entry N A.first A.follow A.label (i * most_messages + m) =
      entries_at (arc_entry N A.first A.follow A.label) (length N * most_messages) 0 (i * most_messages + m) (replicate pool_arcs 0)
      (omega arith) (omega arith) (omega (arith, length-replicate {A = ℕ} pool_arcs 0)) in
      ap (λ b. elim b [ true ↦ arc_at (pool_for A N).arcs i m | false ↦ none ]) (lt-ltb m most_messages l)
      ∙ ap target (e ∙ ap (λ k. arc_to N (after A (get_or N k 0) ((i * most_messages + m) % most_messages))) q ∙ ap (λ k. arc_to N (after A (get_or N i 0) k)) r)

  pub final_is : (i : ℕ) → i < length N → final_at (pool_for A N).finals (some i) ≡ ends A (get_or N i 0)
  final_is i h =
      let e : get_or (pool_for A N).finals i 0 ≡ final_mark A.skips A.last (get_or N i 0) =
      entries_at (λ k. final_mark A.skips A.last (get_or N k 0)) (length N) 0 i (replicate most_pool 0) (omega arith) (omega arith)
      (omega (arith, length-replicate {A = ℕ} most_pool 0)) in
      ap (λ k. eqb k 1) e ∙ by (ends A (get_or N i 0))
    where
      by : (b : Bool) → eqb (cond b 1 0) 1 ≡ b
      by true = refl
      by false = refl

  -- THE NODES
  abbrev node : List ℕ → Option ℕ
  node v = reach most_messages (move A) 0 v

  enough : length (explore most_messages (move A) eqb (0 ∷ []) most_pool) ≤ most_pool
  enough = omega (arith, length-map (explore most_messages (move A) eqb (0 ∷ []) most_pool) (λ (e : Entry ℕ). e.at))

  pub states_distinct : Distinct N
  states_distinct = distinct most_messages (move A) eqb eqb_equality (0 ∷ []) most_pool

  -- all that a word leads to is one of the states
  pub node_in : (v : List ℕ) (y : ℕ) → node v ≡ some y → Mem y N
  node_in v y e =
      let t = complete most_messages (move A) eqb eqb_equality (0 ∷ []) most_pool enough y (0, v, e) in
      Memᴰ.cast (sym t.2) (mem_map (λ (e : Entry ℕ). e.at) t.1)

  -- the start is the first
  pub start_first : (0 < length N) × (get_or N 0 0 ≡ 0)
  start_first =
      let more = expand_extends (λ k. k) eqb (λ x. gather (move A x) most_messages 0) most_pool [] (0 ∷ []) in
      let e : N ≡ (0 ∷ []) ++ more.0 = nodes_are most_messages (move A) 0 most_pool ∙ more.1 in
      (subst (λ l. 0 < length l) (sym e) (omega arith), ap (λ l. get_or l 0 0) e)

  -- A MESSAGE MORE
  set_target : (y : ℕ) → (y ≡ 0 → ⊥) → Mem y N → Stands N (some y) (target (arc_to N y))
  set_target y z m =
      let p = place_is N 0 y m in
      let e : arc_to N y ≡ p.at + 1 =
      ap (λ b. cond b 0 (place_from 0 N y)) (ne_eqb y 0 z) ∙ p.is ∙ (let f : 0 + p.at + 1 ≡ p.at + 1 = omega arith in f) in
      let t : target (arc_to N y) ≡ some p.at =
      ap target e
      ∙ ap (λ b. cond b none (some (p.at + 1 - 1))) (ne_eqb (p.at + 1) 0 (λ h. absurd (omega arith)))
      ∙ ap some (let f : p.at + 1 - 1 ≡ p.at = omega arith in f) in
      subst (Stands N (some y)) (sym t) (at p.within p.there_it_is)

  also : {o o' r r' : Option ℕ} → o ≡ o' → r ≡ r' → Stands N o' r' → Stands N o r
  also {o} {o'} {r} {r'} e f s = subst (λ z. Stands N z r) (sym e) (subst (Stands N o') (sym f) s)

  step_stands : (v : List ℕ) (x i m : ℕ) → node v ≡ some x → i < length N → get_or N i 0 ≡ x
      → Stands N (node (m ∷ v)) (Diagram.along P (some i) m)
  step_stands v x i m e h g =
      by_test (ltb m most_messages)
      (λ t.
      let y : ℕ = after A x m in
      let left : node (m ∷ v) ≡ move A x m =
      ap (λ o. Explore.along most_messages (move A) o m) e ∙ ap (λ b. elim b [ true ↦ move A x m | false ↦ none ]) t in
      let right : Diagram.along P (some i) m ≡ target (arc_to N y) =
      arc_is i m h (ltb-true m most_messages t) ∙ ap (λ z. target (arc_to N (after A z m))) g in
      by_test (eqb y 0)
      (λ z.
      also (left ∙ ap (λ b. cond b none (some y)) z) (right ∙ ap (λ b. target (cond b 0 (place_from 0 N y))) z) nowhere)
      (λ z.
      let to : node (m ∷ v) ≡ some y = left ∙ ap (λ b. cond b none (some y)) z in
      also to right (set_target y (eqb-false y 0 z) (node_in (m ∷ v) y to))))
      (λ t.
      also
      (ap (λ o. Explore.along most_messages (move A) o m) e ∙ ap (λ b. elim b [ true ↦ move A x m | false ↦ none ]) t)
      (ap (λ b. elim b [ true ↦ arc_at (pool_for A N).arcs i m | false ↦ none ]) t)
      nowhere)

  stands_on : (v : List ℕ) (m : ℕ) (o r : Option ℕ) → node v ≡ o → Stands N o r → Stands N (node (m ∷ v)) (Diagram.along P r m)
  stands_on v m o r e nowhere = also (ap (λ z. Explore.along most_messages (move A) z m) e) refl nowhere
  stands_on v m o r e (at {x} {i} h g) = step_stands v x i m e h g

  follow_stands : (w v : List ℕ) (r : Option ℕ) → Stands N (node v) r → Stands N (node (reverse_aux w v)) (Diagram.follow P r w)
  follow_stands [] v r s = s
  follow_stands (m ∷ w) v r s = follow_stands w (m ∷ v) (Diagram.along P r m) (stands_on v m (node v) r refl s)

  -- A WORD leads to the place of what it leads to
  pub stands : (w : List ℕ) → Stands N (node (reverse w)) (Diagram.follow P (some 0) w)
  stands w = follow_stands w [] (some 0) (at start_first.0 start_first.1)
