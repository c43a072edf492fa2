-- The exploration, by its nodes alone.
use Rattle.std.specs.Prelude.{◌≡◌, Bool, true, false, eqb}
use Rattle.std.proofs.Math.Path.{refl, sym, ap, ap₂}
use Rattle.std.proofs.Common.{◌∙◌, add-one}
use Rattle.std.proofs.Math.Option.{Option, none, some}
use mathlib.Core.List.{List, [], ◌∷◌, ◌++◌, map}
use Prim.Native.Nat.{ℕ, zero, suc, ◌+◌}
use Rattle.theory_model.specs.Laws.Basics.{by_test}
use Rattle.theory_exploration.specs.Explore.{Entry, seen, fresh, expand, rounds, starts, extend, children_from, children, explore}
use Rattle.theory_exploration.specs.Laws.Fresh.{fresh_old, fresh_new}
use Rattle.theory_exploration.specs.Growing.{gather}

module _ {E Node : Type 0} (node : E → Node) (same : Node → Node → Bool) where
  map-append : (a b : List E) → map node (a ++ b) ≡ map node a ++ map node b
  map-append [] b = refl
  map-append (x ∷ a) b = ap (λ l. node x ∷ l) (map-append a b)

  seen_nodes : (Q : List E) (x : Node) → seen node same Q x ≡ seen (λ k. k) same (map node Q) x
  seen_nodes [] x = refl
  seen_nodes (e ∷ Q) x = ap (λ r. elim (same (node e) x) [ true ↦ true | false ↦ r ]) (seen_nodes Q x)

  fresh_nodes : (Q cs : List E) → map node (fresh node same Q cs) ≡ fresh (λ k. k) same (map node Q) (map node cs)
  unfolding fresh
  fresh_nodes Q [] = refl
  fresh_nodes Q (c ∷ cs) =
      by_test (seen node same Q (node c))
      (λ t.
      ap (map node) (fresh_old node same Q c cs t) ∙ fresh_nodes Q cs
      ∙ sym (fresh_old (λ k. k) same (map node Q) (node c) (map node cs) (sym (seen_nodes Q (node c)) ∙ t)))
      (λ t.
      ap (map node) (fresh_new node same Q c cs t)
      ∙ ap (λ l. node c ∷ l)
      (fresh_nodes (Q ++ (c ∷ [])) cs ∙ ap (λ l. fresh (λ k. k) same l (map node cs)) (map-append Q (c ∷ [])))
      ∙ sym (fresh_new (λ k. k) same (map node Q) (node c) (map node cs) (sym (seen_nodes Q (node c)) ∙ t)))

  expand_nodes : (children : E → List E) (next : Node → List Node) → ((e : E) → map node (children e) ≡ next (node e))
      → (n : ℕ) (done todo : List E)
      → map node (expand node same children n done todo) ≡ expand (λ k. k) same next n (map node done) (map node todo)
  unfolding expand
  expand_nodes children next h zero done todo = map-append done todo
  expand_nodes children next h (suc n) done [] = refl
  expand_nodes children next h (suc n) done (e ∷ todo) =
      expand_nodes children next h n (done ++ (e ∷ [])) (todo ++ fresh node same (done ++ (e ∷ todo)) (children e))
      ∙ ap₂ (expand (λ k. k) same next n) (map-append done (e ∷ []))
      (map-append todo (fresh node same (done ++ (e ∷ todo)) (children e))
      ∙ ap (λ l. map node todo ++ l)
      (fresh_nodes (done ++ (e ∷ todo)) (children e)
      ∙ ap₂ (fresh (λ k. k) same) (map-append done (e ∷ todo)) (h e)))

-- the children of an entry are what the messages give
children_nodes : (δ : ℕ → ℕ → Option ℕ) (e : Entry ℕ) (left m : ℕ) → map (λ (f : Entry ℕ). f.at) (children_from δ e left m) ≡ gather (δ e.at) left m
unfolding children_from gather
children_nodes δ e zero m = refl
children_nodes δ e (suc left) m =
    by (δ e.at m) (children_nodes δ e left (suc m) ∙ ap (gather (δ e.at) left) (sym (add-one m)))
  where
    by : (o : Option ℕ) → map (λ (f : Entry ℕ). f.at) (children_from δ e left (suc m)) ≡ gather (δ e.at) left (m + 1)
        → map (λ (f : Entry ℕ). f.at) (elim o [ none ↦ children_from δ e left (suc m) | some y ↦ extend e m y ∷ children_from δ e left (suc m) ])
        ≡ elim o [ none ↦ gather (δ e.at) left (m + 1) | some k ↦ k ∷ gather (δ e.at) left (m + 1) ]
    by none r = r
    by (some y) r = ap (λ l. y ∷ l) r

-- FROM ONE ROOT: the nodes of the exploration are those of the search over nodes
pub nodes_are : (M : ℕ) (δ : ℕ → ℕ → Option ℕ) (r fuel : ℕ)
    → map (λ e. e.at) (explore M δ eqb (r ∷ []) fuel) ≡ expand (λ k. k) eqb (λ x. gather (δ x) M 0) fuel [] (r ∷ [])
unfolding explore rounds starts fresh
nodes_are M δ r fuel = expand_nodes (λ e. e.at) eqb (children M δ) (λ x. gather (δ x) M 0) (λ e. children_nodes δ e M 0) fuel [] (record { at = r; root = 0; word = [] } ∷ [])
