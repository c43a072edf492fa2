-- When the list of a search agrees with the entries of an exploration: it has the same nodes, and its parents and lowest letters make
-- the same words.
use Rattle.std.specs.Prelude.{◌≡◌, Bool, true, length}
use Rattle.std.proofs.Math.Path.{refl, ap, ap₂, sym}
use Rattle.std.proofs.Common.{subst, ◌∙◌, ⊎_elim, arith}
use Rattle.std.proofs.Math.Bool.{false}
use Rattle.std.proofs.Math.Option.{Option, none, some}
use mathlib.Core.List.{List, [], ◌∷◌, ◌++◌, map, map-append}
use Prim.Native.Nat.{ℕ, zero, suc, ◌+◌, ◌≤◌, ◌<◌}
use Rattle.std.proofs.Math.Decide.{dec_lt}
use Rattle.std.proofs.lemmas.List.{length-map}
use Rattle.std.proofs.Math.ListN.{get_elem?}
use Rattle.theory_exploration.specs.Explore.{Entry, extend, seen, IsEquality}
use Rattle.theory_exploration.specs.Search.{Found, leads_to, lowest, lowest_from, trace_from}
use Rattle.theory_exploration.specs.Laws.Places.{place_below, place_left, place_seam, place_last, counterpart}

module _ {Node : Type 0} (M : ℕ) (δ : Node → ℕ → Option Node) (same : Node → Node → Bool) where
  -- the entry at the place after k was found from an earlier one, by the lowest letter
  pub record Edge (L : List (Found Node)) (Q : List (Entry Node)) (k : ℕ) (e : Entry Node) : Type 0 where
    pub node : Found Node
    pub place : get_elem? L (suc k) ≡ some node
    pub same_node : node.at ≡ e.at
    pub earlier : node.parent ≤ k
    pub from : Entry Node
    pub parent : get_elem? Q node.parent ≡ some from
    pub word : e.word ≡ lowest M δ same from.at e.at ∷ from.word

  pub record Agree (L : List (Found Node)) (Q : List (Entry Node)) : Type 0 where
    pub nodes : map (λ f. f.at) L ≡ map (λ e. e.at) Q
    pub root : (e : Entry Node) → get_elem? Q 0 ≡ some e → e.word ≡ []
    pub edges : (k : ℕ) (e : Entry Node) → get_elem? Q (suc k) ≡ some e → Edge L Q k e

  pub trace_step : (L : List (Found Node)) (n k : ℕ) (f g : Found Node) → get_elem? L (suc k) ≡ some f → get_elem? L f.parent ≡ some g
      → trace_from M δ same L (suc n) (suc k) ≡ lowest M δ same g.at f.at ∷ trace_from M δ same L n f.parent
  unfolding trace_from
  trace_step L n k f g t b = rw (t, b, trace_from)

  -- then the word of a place is the word of the entry there
  pub trace_is : (L : List (Found Node)) (Q : List (Entry Node)) → Agree L Q → (n k : ℕ) (e : Entry Node) → k ≤ n → get_elem? Q k ≡ some e
      → trace_from M δ same L n k ≡ e.word
  unfolding trace_from
  trace_is L Q a zero zero e l h = sym (a.root e h)
  trace_is L Q a zero (suc k) e l h = absurd (omega arith)
  trace_is L Q a (suc n) zero e l h = sym (a.root e h)
  trace_is L Q a (suc n) (suc k) e l h =
      let d = a.edges k e h in
      let g = counterpart (λ f. f.at) (λ e. e.at) L Q a.nodes d.node.parent d.from d.parent in
      let letter = ap₂ (lowest M δ same) g.2 d.same_node in
      let below = trace_is L Q a n d.node.parent d.from (omega (arith, d.earlier)) d.parent in
      trace_step L n k d.node g.0 d.place g.1 ∙ ap₂ ◌∷◌ letter below ∙ sym d.word

  pub agree_length : (L : List (Found Node)) (Q : List (Entry Node)) → Agree L Q → length L ≡ length Q
  agree_length L Q a = sym (length-map L (λ f. f.at)) ∙ ap length a.nodes ∙ length-map Q (λ e. e.at)

  -- a node found from the place h by its lowest letter
  pub agree_more : (L : List (Found Node)) (Q : List (Entry Node)) → Agree L Q → (h : ℕ) (e : Entry Node) → get_elem? Q h ≡ some e
      → (m : ℕ) (y : Node) → lowest M δ same e.at y ≡ m → Agree (L ++ (record { at = y; parent = h } ∷ [])) (Q ++ (extend e m y ∷ []))
  agree_more L Q a h e at m y low =
      record {
        nodes = map-append (λ f. f.at) L (f ∷ []) ∙ ap (λ l. l ++ (y ∷ [])) a.nodes ∙ sym (map-append (λ e. e.at) Q (c ∷ []));
        root = λ d k. ⊎_elim (a.root d) (λ q. absurd (omega (arith, place_below Q h e at, q.0))) (place_last Q c 0 d k);
        edges = λ k d p. ⊎_elim (λ q. old k d (a.edges k d q)) (λ q. new k d q.0 q.1) (place_last Q c (suc k) d p);
      }
    where
      f : Found Node
      f = record { at = y; parent = h }

      c : Entry Node
      c = extend e m y

      old : (k : ℕ) (d : Entry Node) → Edge L Q k d → Edge (L ++ (f ∷ [])) (Q ++ (c ∷ [])) k d
      old k d g =
          record {
            node = g.node;
            place = place_left L (f ∷ []) (suc k) g.node g.place;
            same_node = g.same_node;
            earlier = g.earlier;
            from = g.from;
            parent = place_left Q (c ∷ []) g.node.parent g.from g.parent;
            word = g.word;
          }

      new : (k : ℕ) (d : Entry Node) → suc k ≡ length Q → c ≡ d → Edge (L ++ (f ∷ [])) (Q ++ (c ∷ [])) k d
      new k d q i =
          record {
            node = f;
            place = ap (get_elem? (L ++ (f ∷ []))) (q ∙ sym (agree_length L Q a)) ∙ place_seam L [] f;
            same_node = ap (λ x. x.at) i;
            earlier = omega (arith, place_below Q h e at);
            from = e;
            parent = place_left Q (c ∷ []) h e at;
            word = subst (λ x. x.word ≡ lowest M δ same e.at x.at ∷ e.word) i (ap (λ n. n ∷ e.word) (sym low));
          }

  -- whether a node is there depends on the nodes alone
  seen_map : {E : Type 0} (node : E → Node) (Q : List E) (x : Node) → seen node same Q x ≡ seen (λ y. y) same (map node Q) x
  seen_map node [] x = refl
  seen_map node (e ∷ Q) x = ap (λ b. elim (same (node e) x) [ true ↦ true | false ↦ b ]) (seen_map node Q x)

  pub agree_seen : (L : List (Found Node)) (Q : List (Entry Node)) → Agree L Q → (y : Node)
      → seen (λ f. f.at) same L y ≡ seen (λ e. e.at) same Q y
  agree_seen L Q a y = seen_map (λ f. f.at) L y ∙ ap (λ l. seen (λ x. x) same l y) a.nodes ∙ sym (seen_map (λ e. e.at) Q y)

is_false : (b : Bool) → (b ≡ true → ⊥) → b ≡ false
is_false true h = absurd (h refl)
is_false false h = refl

module _ {Node : Type 0} (M : ℕ) (δ : Node → ℕ → Option Node) (same : Node → Node → Bool) (equal : IsEquality same) where
  -- a letter that leads there is the lowest if none below it does
  pub lowest_is : (x y : Node) (left m k : ℕ) → m ≤ k → k < m + left → δ x k ≡ some y → ((j : ℕ) → j < k → δ x j ≡ some y → ⊥)
      → lowest_from δ same x y left m ≡ k
  unfolding lowest_from
  lowest_is x y zero m k low high h least = absurd (omega arith)
  lowest_is x y (suc left) m k low high h least = by_letter (dec_lt m k) (λ l. lowest_is x y left (suc m) k l (omega arith) h least)
    where
      leads_not : m < k → (o : Option Node) → δ x m ≡ o → leads_to same o y ≡ false
      leads_not l none e = refl
      leads_not l (some z) e = is_false (same z y) (λ t. least m l (e ∙ ap some ((equal z y).0 t)))

      leads : m ≡ k → leads_to same (δ x m) y ≡ true
      leads q = ap (λ j. leads_to same (δ x j) y) q ∙ ap (λ o. leads_to same o y) h ∙ (equal y y).1 refl

      by_letter : Dec (m < k) → (m < k → lowest_from δ same x y left (suc m) ≡ k) → lowest_from δ same x y (suc left) m ≡ k
      by_letter (yes l) below = rw (leads_not l (δ x m) refl, lowest_from) (below l)
      by_letter (no g) below = let q : m ≡ k = omega arith in rw (leads q, lowest_from) q
