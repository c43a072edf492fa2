-- The search of code is the exploration: the same nodes in the same order, the same first, the same word.
use Rattle.std.specs.Prelude.{◌≡◌, Bool, true, false}
use Rattle.std.proofs.Math.Path.{refl}
use Rattle.std.proofs.Common.{ap, subst, sym, ◌∙◌, arith}
use Rattle.std.proofs.Math.Option.{Option, none, some, none-ne-some, some-injective}
use mathlib.Core.List.{List, [], ◌∷◌, ◌++◌, append-nil, append_assoc}
use Prim.Native.Nat.{ℕ, zero, suc, ◌+◌, ◌≤◌}
use Rattle.std.proofs.Math.ListN.{length, length-append, get_elem?}
use Rattle.theory_exploration.specs.Laws.Mem.{empty, append_move}
use Rattle.theory_exploration.specs.Explore.{Entry, starts, children, fresh, expand, rounds, explore, first_by, IsEquality}
use Rattle.theory_exploration.specs.Search.{Found, Outcome, found, finished, sweep, search, search_from, trace}
use Rattle.theory_exploration.specs.Laws.Expand.{expand_extends}
use Rattle.theory_exploration.specs.Laws.First.{first_append, first_here, first_skip}
use Rattle.theory_exploration.specs.Laws.Places.{place_seam, place_end, counterpart}
use Rattle.theory_exploration.specs.Laws.Agree.{Agree, agree_length, trace_is}
use Rattle.theory_exploration.specs.Laws.Sweep.{sweep_agrees}

module _ {Node : Type 0} (M : ℕ) (δ : Node → ℕ → Option Node) (same : Node → Node → Bool) (p : Node → Bool) where
  -- the place holds the first entry with the property, and its word
  pub record Finds (k : ℕ) (L : List (Found Node)) (Q : List (Entry Node)) : Type 0 where
    pub first : Entry Node
    pub is_first : first_by (λ e. p e.at) Q ≡ some first
    pub node : Found Node
    pub place : get_elem? L k ≡ some node
    pub same_node : node.at ≡ first.at
    pub same_word : trace M δ same L k ≡ first.word
    -- the list is a front of the exploration
    pub front : List (Entry Node)
    pub rest : List (Entry Node)
    pub whole : Q ≡ front ++ rest
    pub agrees : Agree M δ same L front

  -- all is found, and none has the property
  pub record Finishes (L : List (Found Node)) (Q : List (Entry Node)) : Type 0 where
    pub agrees : Agree M δ same L Q
    pub none_has : first_by (λ e. p e.at) Q ≡ none

  abbrev pub Answers : Outcome Node → List (Entry Node) → Type 0
  Answers (found k L) Q = Finds k L Q
  Answers (finished L) Q = Finishes L Q

  -- A STEP of the search
  pub search_end : (n h : ℕ) (L : List (Found Node)) → length L ≤ h → search M δ same p n h L ≡ finished L
  unfolding search
  search_end zero h L l = refl
  search_end (suc n) h L l = rw (place_end L h l, search)

  pub search_found : (n h : ℕ) (L : List (Found Node)) (f : Found Node) → get_elem? L h ≡ some f → p f.at ≡ true
      → search M δ same p (suc n) h L ≡ found h L
  unfolding search
  search_found n h L f t b = rw (t, b, search)

  pub search_on : (n h : ℕ) (L : List (Found Node)) (f : Found Node) → get_elem? L h ≡ some f → p f.at ≡ false
      → search M δ same p (suc n) h L ≡ search M δ same p n (suc h) (sweep δ same f.at h M 0 L)
  unfolding search
  search_on n h L f t b = rw (t, b, search)

module _ {Node : Type 0} (M : ℕ) (δ : Node → ℕ → Option Node) (same : Node → Node → Bool) (equal : IsEquality same) (p : Node → Bool) where
  abbrev first? : List (Entry Node) → Option (Entry Node)
  first? Q = first_by (λ e. p e.at) Q

  abbrev Expand : ℕ → List (Entry Node) → List (Entry Node) → List (Entry Node)
  Expand n done todo = expand (λ e. e.at) same (children M δ) n done todo

  ends : (n h : ℕ) (done : List (Entry Node)) (L : List (Found Node)) → h ≡ length done → Agree M δ same L (done ++ []) → first? done ≡ none
      → Answers M δ same p (search M δ same p n h L) done
  ends n h done L at a clean =
      let b : Agree M δ same L done = rw append-nil at a in
      rw (search_end M δ same p n h L (omega (arith, agree_length M δ same L done b))) (record { agrees = b; none_has = clean })

  -- nothing is left where the fuel is used up
  out_of_fuel : (h : ℕ) (done todo : List (Entry Node)) (L : List (Found Node)) → h ≡ length done → Agree M δ same L (done ++ todo)
      → first? done ≡ none → length (done ++ todo) ≤ length done + 0 → Answers M δ same p (search M δ same p 0 h L) (done ++ todo)
  out_of_fuel h done todo L at a clean enough =
      let left : todo ≡ [] = empty todo (omega (arith, length-append done todo)) in
      let all : done ++ todo ≡ done = ap (λ t. done ++ t) left ∙ append-nil done in
      rw all (ends 0 h done L at (subst (λ t. Agree M δ same L (done ++ t)) left a) clean)

  -- an entry is taken
  module _ (n h : ℕ) (done : List (Entry Node)) (e : Entry Node) (todo : List (Entry Node)) (L : List (Found Node))
      (at : h ≡ length done) (a : Agree M δ same L (done ++ (e ∷ todo))) (clean : first? done ≡ none) where
    abbrev Goal : Type 0
    Goal = Answers M δ same p (search M δ same p (suc n) h L) (Expand (suc n) done (e ∷ todo))

    -- the search goes on with a list that agrees
    abbrev Next : Type 0
    Next = (L' : List (Found Node))
        → Agree M δ same L' ((done ++ (e ∷ [])) ++ (todo ++ fresh (λ e. e.at) same (done ++ (e ∷ todo)) (children M δ e)))
        → first? (done ++ (e ∷ [])) ≡ none → Answers M δ same p (search M δ same p n (suc h) L') (Expand (suc n) done (e ∷ todo))

    place : get_elem? (done ++ (e ∷ todo)) h ≡ some e
    place = ap (get_elem? (done ++ (e ∷ todo))) at ∙ place_seam done todo e

    stops : (f : Found Node) → get_elem? L h ≡ some f → f.at ≡ e.at → p e.at ≡ true → Goal
    stops f t q b =
        rw (search_found M δ same p n h L f t (ap p q ∙ b))
        (record {
          first = e;
          is_first = is_first;
          node = f;
          place = t;
          same_node = q;
          same_word = trace_is M δ same L (done ++ (e ∷ todo)) a h h e (omega arith) place;
          front = done ++ (e ∷ todo);
          rest = X.0;
          whole = X.1;
          agrees = a;
        })
      where
        X : (X : List (Entry Node)) × (Expand (suc n) done (e ∷ todo) ≡ (done ++ (e ∷ todo)) ++ X)
        X = expand_extends (λ e. e.at) same (children M δ) (suc n) done (e ∷ todo)

        is_first : first? (Expand (suc n) done (e ∷ todo)) ≡ some e
        is_first =
            ap first? (X.1 ∙ append_assoc done (e ∷ todo) X.0)
            ∙ first_append (λ e. p e.at) done (e ∷ (todo ++ X.0)) clean
            ∙ first_here (λ e. p e.at) e (todo ++ X.0) b

    goes_on : (f : Found Node) → get_elem? L h ≡ some f → f.at ≡ e.at → p e.at ≡ false → Next → Goal
    goes_on f t q b next =
        let Q : List (Entry Node) = done ++ (e ∷ todo) in
        let F : List (Entry Node) = fresh (λ e. e.at) same Q (children M δ e) in
        let swept = sweep_agrees M δ same equal h e M 0 (omega arith) L Q place a (λ j z l. absurd (omega arith)) in
        let clean' = first_append (λ e. p e.at) done (e ∷ []) clean ∙ first_skip (λ e. p e.at) e [] b in
        rw (search_on M δ same p n h L f t (ap p q ∙ b), q)
        (next (sweep δ same e.at h M 0 L) (rw (append_move done e todo F) swept) clean')

    taken : Next → Goal
    taken next =
        let f = counterpart (λ f. f.at) (λ e. e.at) L (done ++ (e ∷ todo)) a.nodes h e place in
        by_test f.0 f.1 f.2 (p e.at) refl
      where
        by_test : (f : Found Node) → get_elem? L h ≡ some f → f.at ≡ e.at → (b : Bool) → p e.at ≡ b → Goal
        by_test f t q true b = stops f t q b
        by_test f t q false b = goes_on f t q b next

  search_agrees : (n h : ℕ) (done todo : List (Entry Node)) (L : List (Found Node)) → h ≡ length done → Agree M δ same L (done ++ todo)
      → first? done ≡ none → length (Expand n done todo) ≤ length done + n
      → Answers M δ same p (search M δ same p n h L) (Expand n done todo)
  unfolding expand
  search_agrees zero h done todo L at a clean enough = out_of_fuel h done todo L at a clean enough
  search_agrees (suc n) h done [] L at a clean enough = ends (suc n) h done L at a clean
  search_agrees (suc n) h done (e ∷ todo) L at a clean enough =
      let F : List (Entry Node) = fresh (λ e. e.at) same (done ++ (e ∷ todo)) (children M δ e) in
      let at' : suc h ≡ length (done ++ (e ∷ [])) = simp length-append (omega arith) in
      let on = search_agrees n (suc h) (done ++ (e ∷ [])) (todo ++ F) in
      taken n h done e todo L at a clean (λ L' a' clean'. on L' at' a' clean' (simp length-append (omega arith)))

  pub search_is : (r : Node) (fuel : ℕ) → length (explore M δ same (r ∷ []) fuel) ≤ fuel
      → Answers M δ same p (search_from M δ same p r fuel) (explore M δ same (r ∷ []) fuel)
  unfolding explore rounds starts fresh
  search_is r fuel enough = search_agrees fuel 0 [] (s ∷ []) (record { at = r; parent = 0 } ∷ []) refl begin refl (omega arith)
    where
      s : Entry Node
      s = record { at = r; root = 0; word = [] }

      begin : Agree M δ same (record { at = r; parent = 0 } ∷ []) (s ∷ [])
      begin =
          record {
            nodes = refl;
            root = λ e h. ap (λ x. x.word) (sym (some-injective s e h));
            edges = λ k e h. absurd (none-ne-some e h);
          }
