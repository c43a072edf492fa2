-- The list of states as the code fills it: one set more, the sets of all messages, and one state after the other.
use Rattle.std.specs.Prelude.{◌≡◌, refl, true, false, cond, eqb, length, get_or, set, take}
use Rattle.std.proofs.Math.Path.{sym, ap}
use Rattle.std.proofs.Common.{subst, ◌∙◌, eq-eqb, ne_eqb, arith, add-one, length-append, length-set, take-suc-set}
use Rattle.std.proofs.Math.Option.{none, some}
use mathlib.Core.List.{List, [], ◌∷◌, ◌++◌, append-nil}
use Prim.Native.Nat.{ℕ, ◌+◌, ◌-◌, ◌≤◌, ◌<◌}
use Rattle.std.proofs.Math.Nat.{sub-zero}
use Rattle.std.proofs.lemmas.List.{get_or_default}
use Rattle.std.specs.Int.Bits.{bit_and}
use Rattle.tables.specs.Limits.{most_pool, most_messages}
use Rattle.theory_model.specs.Laws.Basics.{by_test}
use Rattle.theory_exploration.specs.Explore.{fresh, expand}
use Rattle.theory_exploration.specs.Marks.{mem}
use Rattle.theory_exploration.specs.Laws.Mem.{append_move}
use Rattle.theory_exploration.specs.Laws.Expand.{expand_extends}
use Rattle.theory_exploration.specs.Laws.Fuel.{expand_nothing}
use Rattle.theory_exploration.specs.Growing.{gather, grown}
use Rattle.theory_exploration.specs.Laws.Gather.{gather_skip, gather_on, gather_end}
use Rattle.theory_exploration.specs.Laws.Grown.{grown_none, grown_old, grown_new, grown_append}
use Rattle.theory_exploration.specs.Laws.Front.{expand_on, front_many, front_next, front_end}
use Rattle.theory_occurrences.specs.Sets.{meet, marked}
use Rattle.expression_states.specs.States.{next_of, set_for, states_from}
use Rattle.expression_sets.specs.Marks.{Marks}
use Rattle.expression_states.specs.Grows.{a_state, Grows, AddsNext, FindsStates}
use Rattle.expression_states.specs.Laws.Numbering.{nodes_are}

-- ONE SET MORE
a_state_lem : {x : ℕ} → (x ≡ 0 → ⊥) → a_state x ≡ x ∷ []
a_state_lem {x} e = ap (λ b. cond b [] (x ∷ [])) (ne_eqb x 0 e)

no_state : {x : ℕ} → x ≡ 0 → a_state x ≡ []
no_state {x} e = ap (λ b. cond b [] (x ∷ [])) (eq-eqb x 0 e)

module _ (S : List ℕ) (n : ℕ) {x : ℕ} where
  pub adds_empty : x ≡ 0 → Grows S n 1 (a_state x) S n
  adds_empty e = record { is = sym (ap (grown (take n S)) (no_state e) ∙ grown_none (take n S)); long = refl; within = omega arith }

  pub adds_old : (x ≡ 0 → ⊥) → mem x (take n S) ≡ true → Grows S n 1 (a_state x) S n
  adds_old e there =
      record {
        is = sym (ap (grown (take n S)) (a_state_lem e) ∙ grown_old (take n S) x [] there ∙ grown_none (take n S));
        long = refl;
        within = omega arith;
      }

  pub adds_new : (x ≡ 0 → ⊥) → mem x (take n S) ≡ false → n < length S → Grows S n 1 (a_state x) (set S n x) (n + 1)
  adds_new e absent h =
      record {
        is =
            ap (λ k. take k (set S n x)) (add-one n) ∙ take-suc-set S n x h
            ∙ sym (ap (grown (take n S)) (a_state_lem e) ∙ grown_new (take n S) x [] absent ∙ grown_none (take n S ++ (x ∷ [])));
        long = length-set S n x;
        within = omega arith;
      }

-- THE SETS OF ALL MESSAGES: what is found, and what is left to find from message m on
pub record Adding (S₀ : List ℕ) (n₀ : ℕ) (z : ℕ) (L S : List ℕ) (n m : ℕ) : Type 0 where
  pub is : grown (take n S) (gather (set_for z L) (most_messages - m) m) ≡ grown (take n₀ S₀) (gather (set_for z L) most_messages 0)
  pub long : length S ≡ length S₀
  pub within : n ≤ n₀ + m

sets_on : (z : ℕ) (L : List ℕ) {m : ℕ} → m < most_messages
    → gather (set_for z L) (most_messages - m) m
    ≡ a_state (meet z (marked m L)) ++ gather (set_for z L) (most_messages - (m + 1)) (m + 1)
sets_on z L {m} h =
    by_test (eqb x 0)
    (λ t.
    gather_skip (set_for z L) h (ap (λ b. cond b none (some x)) t)
    ∙ ap (λ b. cond b [] (x ∷ []) ++ gather (set_for z L) (most_messages - (m + 1)) (m + 1)) (sym t))
    (λ t.
    gather_on (set_for z L) h (ap (λ b. cond b none (some x)) t)
    ∙ ap (λ b. cond b [] (x ∷ []) ++ gather (set_for z L) (most_messages - (m + 1)) (m + 1)) (sym t))
  where
    x : ℕ
    x = meet z (marked m L)

pub adding_begin : (z : ℕ) (L S : List ℕ) (n : ℕ) → Adding S n z L S n 0
adding_begin z L S n =
    record { is = ap (λ k. grown (take n S) (gather (set_for z L) k 0)) (sub-zero most_messages); long = refl; within = omega arith }

module _ {S₀ L S : List ℕ} {n₀ z n m : ℕ} (W : Adding S₀ n₀ z L S n m) where
  pub adding_next : {S' : List ℕ} {n' y : ℕ} → m < most_messages → y ≡ marked m L → Grows S n 1 (a_state (meet z y)) S' n'
      → Adding S₀ n₀ z L S' n' (m + 1)
  adding_next {S'} {n'} {y} h e g =
      let rest : List ℕ = gather (set_for z L) (most_messages - (m + 1)) (m + 1) in
      record {
        is =
            ap (λ l. grown l rest) g.is ∙ sym (grown_append (take n S) (a_state (meet z y)) rest)
            ∙ ap (λ x. grown (take n S) (a_state (meet z x) ++ rest)) e
            ∙ ap (grown (take n S)) (sym (sets_on z L h))
            ∙ W.is;
        long = g.long ∙ W.long;
        within = omega (arith, g.within, W.within);
      }

  pub adding_end : most_messages ≤ m → m ≤ most_messages → Grows S₀ n₀ most_messages (gather (set_for z L) most_messages 0) S n
  adding_end h k =
      record {
        is = sym (grown_none (take n S)) ∙ ap (grown (take n S)) (sym (gather_end (set_for z L) h)) ∙ W.is;
        long = W.long;
        within = omega (arith, W.within);
      }

-- the same by a table of marks, whatever the labels that it has the marks of
pub record Marked (S₀ : List ℕ) (n₀ z : ℕ) (M S : List ℕ) (n m : ℕ) : Type 0 where
  pub adding : (L : List ℕ) → Marks L M → Adding S₀ n₀ z L S n m
  pub long : length S ≡ length S₀
  pub within : n ≤ n₀ + m
  pub few : m ≤ most_messages

module _ {S₀ M S : List ℕ} {n₀ z n m : ℕ} (W : Marked S₀ n₀ z M S n m) where
  pub marked_next : {S' : List ℕ} {n' : ℕ} → m < most_messages → Grows S n 1 (a_state (bit_and z (get_or M m 0))) S' n'
      → Marked S₀ n₀ z M S' n' (m + 1)
  unfolding meet
  marked_next h g =
      record {
        adding = λ L k. adding_next (W.adding L k) h (k.each m h) g;
        long = g.long ∙ W.long;
        within = omega (arith, g.within, W.within);
        few = omega arith;
      }

  -- the entry is read where there is one, so it is the same by any default
  pub marked_entry : (d : ℕ) {S' : List ℕ} {n' w : ℕ} → length M ≡ most_messages → m < most_messages → w ≡ meet z (get_or M m d)
      → Grows S n 1 (a_state w) S' n' → Marked S₀ n₀ z M S' n' (m + 1)
  unfolding meet
  marked_entry d {S'} {n'} {w} l h e g =
      let same : w ≡ bit_and z (get_or M m 0) = e ∙ ap (bit_and z) (get_or_default M m d 0 (omega (arith, l, h))) in
      marked_next h (subst (λ x. Grows S n 1 (a_state x) S' n') same g)

  pub marked_end : most_messages ≤ m → AddsNext z M S₀ n₀ S n
  marked_end h =
      record { finds = λ L k. adding_end (W.adding L k) h W.few; long = W.long; within = omega (arith, W.within, W.few) }

-- ONE STATE AFTER THE OTHER: those before place `at` are done
pub record Growing (next : ℕ → List ℕ) (all S : List ℕ) (n at : ℕ) : Type 0 where
  pub done : List ℕ
  pub todo : List ℕ
  pub whole : take n S ≡ done ++ todo
  pub taken : length done ≡ at
  pub is : expand (λ k. k) eqb next (most_pool - at) done todo ≡ all
  pub long : length S ≡ most_pool + most_messages
  pub within : n ≤ length S

module _ {next : ℕ → List ℕ} where
  pub growing_begin : (S : List ℕ) → length S ≡ most_pool + most_messages
      → Growing next (expand (λ k. k) eqb next most_pool [] (0 ∷ [])) (set S 0 0) 1 0
  growing_begin S l =
      record {
        done = [];
        todo = 0 ∷ [];
        whole = take-suc-set S 0 0 (omega arith);
        taken = refl;
        is = refl;
        long = length-set S 0 0 ∙ l;
        within = omega (arith, length-set S 0 0);
      }

  module _ {all S : List ℕ} {n at : ℕ} (G : Growing next all S n at) where
    -- the state that is taken next
    next_is : at < n → (t : List ℕ) × (G.todo ≡ get_or S at 0 ∷ t)
    next_is h = front_next S G.done G.todo n at G.within G.whole G.taken h

    pub growing_next : {S' : List ℕ} {n' : ℕ} → at < n → n ≤ most_pool → Grows S n most_messages (next (get_or S at 0)) S' n'
        → Growing next all S' n' (at + 1)
    growing_next h l g =
        let r = next_is h in
        let x : ℕ = get_or S at 0 in
        let Q : take n S ≡ G.done ++ (x ∷ r.0) = G.whole ∙ ap (λ l. G.done ++ l) r.1 in
        let new : List ℕ = fresh (λ k. k) eqb (G.done ++ (x ∷ r.0)) (next x) in
        record {
          done = G.done ++ (x ∷ []);
          todo = r.0 ++ new;
          whole = g.is ∙ ap (λ l. grown l (next x)) Q ∙ sym (append_move G.done x r.0 new);
          taken = omega (arith, length-append G.done (x ∷ []), G.taken);
          is =
              sym (ap (expand (λ k. k) eqb next (most_pool - at) G.done) r.1
              ∙ expand_on next G.done x r.0 (omega arith))
              ∙ G.is;
          long = g.long ∙ G.long;
          within = omega (arith, g.within, g.long, G.long);
        }

    pub growing_all : n ≤ at → take n S ≡ all
    growing_all h =
        let none = front_end S G.done G.todo n at G.within G.whole G.taken h in
        G.whole ∙ ap (λ l. G.done ++ l) none ∙ append-nil G.done
        ∙ sym (expand_nothing (λ k. k) eqb next (most_pool - at) G.done)
        ∙ ap (expand (λ k. k) eqb next (most_pool - at) G.done) (sym none)
        ∙ G.is

    pub growing_more : n ≤ length all
    growing_more =
        let more = expand_extends (λ k. k) eqb next (most_pool - at) G.done G.todo in
        omega (arith, front_many S G.done G.todo n at G.within G.whole G.taken, ap length (sym G.is ∙ more.1), length-append (G.done ++ G.todo) more.0)

-- WHAT IS FOUND, over the tables of an automaton
pub record Finding (first : ℕ) (F M S : List ℕ) (n at : ℕ) : Type 0 where
  pub grows : (L : List ℕ) → Marks L M → Growing (λ x. gather (set_for (next_of first F x) L) most_messages 0) (states_from first F L) S n at
  pub long : length S ≡ most_pool + most_messages
  pub within : n ≤ length S

pub finding_begin : (first : ℕ) (F M S : List ℕ) → length S ≡ most_pool + most_messages → Finding first F M (set S 0 0) 1 0
finding_begin first F M S l =
    record {
      grows =
          λ L k.
          subst (λ all. Growing (λ x. gather (set_for (next_of first F x) L) most_messages 0) all (set S 0 0) 1 0)
          (sym (nodes_are most_messages (λ x. set_for (next_of first F x) L) 0 most_pool))
          (growing_begin S l);
      long = length-set S 0 0 ∙ l;
      within = omega (arith, length-set S 0 0);
    }

module _ {first n at : ℕ} {F M S : List ℕ} (G : Finding first F M S n at) where
  -- what comes next at the state that is taken was found by the code
  pub finding_next : (d : ℕ) {S' : List ℕ} {n' z : ℕ} → at < n → n ≤ most_pool → z ≡ next_of first F (get_or S at d) → AddsNext z M S n S' n'
      → Finding first F M S' n' (at + 1)
  finding_next d {S'} {n'} {z} h l found g =
      let e : z ≡ next_of first F (get_or S at 0) = found ∙ ap (next_of first F) (get_or_default S at d 0 (omega (arith, h, G.within))) in
      record {
        grows =
            λ L k.
            growing_next (G.grows L k) h l (subst (λ x. Grows S n most_messages (gather (set_for x L) most_messages 0) S' n') e (g.finds L k));
        long = g.long ∙ G.long;
        within = omega (arith, g.within, g.long, G.long);
      }

  pub all_found : n ≤ at → FindsStates first F M S n
  all_found h =
      record {
        finds =
            λ L k.
            let W = G.grows L k in
            record { few = λ l. growing_all W h; many = λ l. omega (arith, growing_more W); within = G.within };
        within = G.within;
      }

  pub more_found : most_pool < n → FindsStates first F M S n
  more_found h =
      record {
        finds =
            λ L k.
            let W = G.grows L k in
            record { few = λ l. absurd (omega arith); many = λ l. omega (arith, growing_more W); within = G.within };
        within = G.within;
      }
