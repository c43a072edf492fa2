-- A diagram is refused for its states exactly if there are more of them than it may have.
use Rattle.std.specs.Prelude.{◌≡◌, refl, ◌↔◌, true, ℕ, ◌^◌, ◌≤◌, ◌<◌, eqb, length}
use Rattle.std.proofs.Common.{sym, ap, subst, ◌∙◌, inl, inr, arith}
use mathlib.Core.Logic.Iff
use Rattle.std.proofs.Math.Option.{Option, none, some, some-injective}
use mathlib.Core.List.{List, [], ◌∷◌, reverse, cons-ne-nil}
use Rattle.std.proofs.lemmas.List.{length-map, length-reverse}
use Rattle.theory_exploration.specs.Mem.{Mem}
use Rattle.theory_exploration.specs.Size.{Size}
use Rattle.theory_exploration.specs.Explore.{Entry, ReachedFrom, reach, explore}
use Rattle.theory_exploration.specs.Laws.Mem.{map_mem}
use Rattle.theory_exploration.specs.Laws.Size.{at_most, size_same, size_unique, below, below_length, below_each}
use Rattle.theory_exploration.specs.Laws.Meaning.{distinct, sound_word, enough_from, size_from}
use Rattle.tables.specs.Limits.{most_pool, most_messages}
use Rattle.tables.specs.declared.tables.Pool.{Pool}
use Rattle.theory_grammar.specs.Tree.{Tree, size}
use Rattle.theory_grammar.specs.Grammar.{Text}
use Rattle.theory_grammar.specs.Parse.{parsed, parse}
use Rattle.theory_grammar.specs.Offends.{most_occurrences, Offends}
use Rattle.theory_grammar.specs.Laws.Running.{stuck_not_parsed}
use Rattle.theory_grammar.specs.Laws.Sound.{parsed_spelled}
use Rattle.theory_grammar.specs.Laws.Complete.{spelled_parsed, one_tree}
use Rattle.theory_grammar.specs.Laws.Limits.{limits_kept, limits_passed}
use Rattle.theory_grammar.specs.Laws.Numbers.{kept_bounds}
use Rattle.theory_occurrences.specs.Sets.{has}
use Rattle.theory_occurrences.specs.Positions.{Automaton, automaton, move}
use Rattle.theory_occurrences.specs.EndsOn.{EndsOn}
use Rattle.theory_occurrences.specs.Laws.Sets.{some_member, same_members}
use Rattle.theory_occurrences.specs.Laws.Letters.{Low}
use Rattle.theory_occurrences.specs.Laws.Arrives.{Node, node_set, node_none, stored_node_set}
use Rattle.expression_pool.specs.Filled.{pool_for}
use Rattle.expression.specs.Expression.{Drawn, root, most_text, turned_away, states, expression}
use Rattle.expression.specs.Means.{EndSet, StateOf, TooManyStates, DrawnElse}
use Rattle.expression.specs.Laws.Standing.{eqb_equality}
use Rattle.expression.specs.Laws.Comes.{Comes, long, outside, offender, many, drawn, comes, drawn_not_refused}

-- the first letter of a word that is not empty
first_letter : (w : List ℕ) → (w ≡ [] → ⊥) → (m : ℕ) × (u : List ℕ) × (w ≡ m ∷ u)
first_letter [] h = absurd (h refl)
first_letter (m ∷ u) h = (m, u, refl)

module _ (t : Tree) (small : size t ≤ most_occurrences) (low : Low t) where
  abbrev A : Automaton
  A = automaton t

  -- WHAT WORDS LEAD TO are the states
  end_set : (w : List ℕ) (x : ℕ) → (w ≡ [] → ⊥) → Node t w x → EndSet t x
  end_set w x h n =
      let (m, u, e) = first_letter w h in
      let (p, b) = some_member x n.not_empty in
      record {
        message = m;
        rest = u;
        some_occurrence = (p, subst (λ v. EndsOn t v p) e ((n.members p).0 b));
        members = λ q. subst (λ v. (has x q ≡ true) ↔ EndsOn t v q) e (n.members q);
      }

  reached_state : (x : ℕ) → ReachedFrom most_messages (move A) 0 x → StateOf t x
  reached_state x ([], e) = inl (sym (some-injective 0 x e))
  reached_state x (m ∷ v, e) =
      let n = stored_node_set t small low (m ∷ v) (cons-ne-nil m v) x e in
      inr (end_set (reverse (m ∷ v)) x (λ h. absurd (omega (arith, length-reverse (m ∷ v), ap length h))) n)

  state_reached : (x : ℕ) → StateOf t x → ReachedFrom most_messages (move A) 0 x
  state_reached x (inl z) = ([], ap some (sym z))
  state_reached x (inr s) = go (reach most_messages (move A) 0 (reverse w)) refl
    where
      w : List ℕ
      w = s.message ∷ s.rest

      go : (o : Option ℕ) → reach most_messages (move A) 0 (reverse w) ≡ o → ReachedFrom most_messages (move A) 0 x
      go none e = absurd (node_none t small low w e s.some_occurrence.0 s.some_occurrence.1)
      go (some y) e =
          let n = node_set t small low w (cons-ne-nil s.message s.rest) y e in
          let same : y ≡ x = same_members y x (λ p. Iff.trans (n.members p) (Iff.symm (s.members p))) in
          (reverse w, e ∙ ap some same)

  states_reached : (x : ℕ) → ReachedFrom most_messages (move A) 0 x ↔ StateOf t x
  states_reached x = (reached_state x, state_reached x)

  reached_low : (x : ℕ) → ReachedFrom most_messages (move A) 0 x → x < 2 ^ most_occurrences
  reached_low x ([], e) = let z : 0 ≡ x = some-injective 0 x e in omega arith
  reached_low x (m ∷ v, e) = (stored_node_set t small low (m ∷ v) (cons-ne-nil m v) x e).low

  -- THE NUMBER OF STATES: with fuel for all sets there are
  all_states : (most : ℕ) → most ≡ 2 ^ most_occurrences → (n : ℕ) × Size (StateOf t) n
  all_states most e =
      let enough =
      enough_from most_messages (move A) eqb eqb_equality 0 most (below most)
      (λ x r. below_each most x (subst (λ k. x < k) (sym e) (reached_low x r)))
      (omega (arith, below_length most)) in
      (length (explore most_messages (move A) eqb (0 ∷ []) most), size_same states_reached (size_from most_messages (move A) eqb eqb_equality 0 most enough))

  -- those that were found are different, and are states
  at_least_found : (n : ℕ) → Size (StateOf t) n → length (states A) ≤ n
  at_least_found n s =
      subst (λ k. length (states A) ≤ k) s.count
      (at_most (states A) s.members (distinct most_messages (move A) eqb eqb_equality (0 ∷ []) most_pool) (λ x m. s.each x (reached_state x (found x m))))
    where
      found : (x : ℕ) → Mem x (states A) → ReachedFrom most_messages (move A) 0 x
      found x m =
          let (e, k, f) = map_mem (λ (e : Entry ℕ). e.at) x (explore most_messages (move A) eqb (0 ∷ []) most_pool) m in
          (e.word, sound_word most_messages (move A) eqb eqb_equality 0 most_pool e k ∙ ap some f)

  -- and where the fuel was enough they are all
  found_all : length (states A) ≤ most_pool → Size (StateOf t) (length (states A))
  found_all few =
      let as_many = length-map (explore most_messages (move A) eqb (0 ∷ []) most_pool) (λ (e : Entry ℕ). e.at) in
      subst (Size (StateOf t)) (sym as_many)
      (size_same states_reached (size_from most_messages (move A) eqb eqb_equality 0 most_pool (omega (arith, as_many))))

-- A TEXT OF THE GRAMMAR where nothing offends
module _ (s : List ℕ) (l : length s ≤ most_text) (t : Tree) (w : Text s t) (none-offends : (k p : ℕ) → Offends s k p → ⊥) where
  tree : parse s ≡ parsed t
  tree = spelled_parsed s t w

  bounds : (size t ≤ most_occurrences) × Low t
  bounds = kept_bounds s t w ((limits_kept s).1 none-offends)

  same_tree : {u : Tree} → parse s ≡ parsed u → u ≡ t
  same_tree {u} f = one_tree (parsed_spelled s u f) w

  -- has too many states, or a pool
  pub data Counted : Drawn → Type 0 where
    more : most_pool < length (states (automaton t)) → Counted (turned_away 22 0)
    pool : length (states (automaton t)) ≤ most_pool
        → Counted (record { reply = root 0; pool = pool_for (automaton t) (states (automaton t)) })

  counted : (D : Drawn) → Comes s D → Counted D
  counted D (long h) = absurd (omega arith)
  counted D (outside h n f) = stuck_not_parsed f tree
  counted D (offender h u f k p g) = absurd (none-offends k p ((limits_passed s k p).0 g).offends)
  counted D (many h u f g m) = more (subst (λ v. most_pool < length (states (automaton v))) (same_tree f) m)
  counted D (drawn h u f g m) =
      subst (λ v. Counted (record { reply = root 0; pool = pool_for (automaton v) (states (automaton v)) })) (sym (same_tree f))
      (pool (subst (λ v. length (states (automaton v)) ≤ most_pool) (same_tree f) m))

  too_many : (D : Drawn) → Counted D → (D ≡ turned_away 22 0) ↔ ((n : ℕ) × Size (StateOf t) n × (most_pool < n))
  too_many D (more m) = (
    λ e.
        let (n, z) = all_states t bounds.0 bounds.1 (2 ^ most_occurrences) refl in
        (n, z, omega (arith, at_least_found t bounds.0 bounds.1 n z)),
    λ h. refl,
  )
  too_many D (pool m) = (
    λ e. absurd (drawn_not_refused e),
    λ (n, z, k).
        let same = size_unique z (found_all t bounds.0 bounds.1 m) in
        absurd (omega arith),
  )

  else_drawn : (D : Drawn) → Counted D → (n : ℕ) → Size (StateOf t) n → n ≤ most_pool
      → (P : Pool) × (D ≡ record { reply = root 0; pool = P }) × (P.count ≡ n)
  else_drawn D (more m) n z h = absurd (omega (arith, at_least_found t bounds.0 bounds.1 n z))
  else_drawn D (pool m) n z h =
      (pool_for (automaton t) (states (automaton t)), refl, size_unique (found_all t bounds.0 bounds.1 m) z)

pub too_many_states_lem : TooManyStates
too_many_states_lem s l t w none-offends = too_many s l t w none-offends (expression s) (counted s l t w none-offends (expression s) (comes s))

pub drawn_else : DrawnElse
drawn_else s l t w none-offends = else_drawn s l t w none-offends (expression s) (counted s l t w none-offends (expression s) (comes s))
