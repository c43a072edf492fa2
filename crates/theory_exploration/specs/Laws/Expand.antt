-- Searching breadth first: what a step keeps, and what holds where everything is done.
use Rattle.std.specs.Prelude.{◌≡◌, ◌⊎◌, Bool}
use Rattle.std.proofs.Math.Path.{refl, subst, sym}
use Rattle.std.proofs.Common.{ap, subst₂, ◌∙◌, ⊎_elim, arith}
use Rattle.std.proofs.Math.Logic.{inl, inr}
use mathlib.Core.List.{List, [], ◌∷◌, ◌++◌, append-nil, append_assoc}
use mathlib.Core.List.Memᴰ
use Prim.Native.Nat.{ℕ, zero, suc, ◌+◌, ◌≤◌}
use Rattle.std.proofs.Math.ListN.{length, length-append}
use Rattle.theory_exploration.specs.Mem.{Mem, here, there, All, Ascending}
use Rattle.theory_exploration.specs.Laws.Mem.{empty, append_move, ascending_join, ascending_across, ascending_right}
use Rattle.theory_exploration.specs.Explore.{IsEquality, fresh, expand}
use Rattle.theory_exploration.specs.Laws.Fresh.{Has, has_more, fresh_only, fresh_all, fresh_ascends, fresh_has}

-- what the order of entries has to do with their children
pub record Steady {E : Type 0} (children : E → List E) (R : E → E → Type 0) : Type 0 where
  pub transitive : (e f g : E) → R e f → R f g → R e g
  pub child_after : (e c : E) → Mem c (children e) → R e c
  pub children_follow : (e f c d : E) → R e f → Mem c (children e) → Mem d (children f) → R c d
  pub children_ascend : (e : E) → Ascending R (children e)

-- how it ends: a part is done and a part may be left, but none unless the fuel was used up
pub record Ended {E : Type 0} (J : List E → List E → Type 0) (most : ℕ) (Q : List E) : Type 0 where
  pub front : List E
  pub rest : List E
  pub whole : Q ≡ front ++ rest
  pub holds : J front rest
  pub ended : (rest ≡ []) ⊎ (length front ≡ most)

-- what is done and what is to do stand in order, and nothing is missing of what is done
pub record Ordered {E Node : Type 0} (node : E → Node) (children : E → List E) (R : E → E → Type 0) (done todo : List E) : Type 0 where
  pub ascends : Ascending R (done ++ todo)
  -- what is to do comes before the children that it will have
  pub ahead : (f e c : E) → Mem f todo → Mem e todo → Mem c (children e) → R f c
  pub closed : (e c : E) → Mem e done → Mem c (children e) → Has node R (done ++ todo) c

module _ {E Node : Type 0} (node : E → Node) (same : Node → Node → Bool) (children : E → List E) where
  pub expand_ends : (J : List E → List E → Type 0)
      → ((d : List E) (e : E) (t : List E) → J d (e ∷ t) → J (d ++ (e ∷ [])) (t ++ fresh node same (d ++ (e ∷ t)) (children e)))
      → (n : ℕ) (done todo : List E) → J done todo → Ended J (length done + n) (expand node same children n done todo)
  unfolding expand
  expand_ends J step zero done todo h = record { front = done; rest = todo; whole = refl; holds = h; ended = inr (omega arith) }
  expand_ends J step (suc n) done [] h = record { front = done; rest = []; whole = sym (append-nil done); holds = h; ended = inl refl }
  expand_ends J step (suc n) done (e ∷ todo) h =
      let F : List E = fresh node same (done ++ (e ∷ todo)) (children e) in
      let count : length (done ++ (e ∷ [])) + n ≡ length done + suc n = simp length-append (omega arith) in
      let end = expand_ends J step n (done ++ (e ∷ [])) (todo ++ F) (step done e todo h) in
      subst (λ k. Ended J k (expand node same children n (done ++ (e ∷ [])) (todo ++ F))) count end

  -- what adding children keeps
  pub expand_keeps : (K : List E → Type 0) → ((Q : List E) (e : E) → Mem e Q → K Q → K (Q ++ fresh node same Q (children e)))
      → (n : ℕ) (done todo : List E) → K (done ++ todo) → K (expand node same children n done todo)
  expand_keeps K step n done todo h =
      let end = expand_ends (λ d t. K (d ++ t)) keep n done todo h in
      rw end.whole end.holds
    where
      keep : (d : List E) (e : E) (t : List E) → K (d ++ (e ∷ t))
          → K ((d ++ (e ∷ [])) ++ (t ++ fresh node same (d ++ (e ∷ t)) (children e)))
      keep d e t k = rw (append_move d e t) (step (d ++ (e ∷ t)) e (Memᴰ.append_right d (here refl)) k)

  -- nothing is taken away
  pub expand_extends : (n : ℕ) (done todo : List E) → (X : List E) × (expand node same children n done todo ≡ (done ++ todo) ++ X)
  expand_extends n done todo = expand_keeps (λ Q. (X : List E) × (Q ≡ Q₀ ++ X)) more n done todo ([], sym (append-nil Q₀))
    where
      Q₀ : List E
      Q₀ = done ++ todo

      more : (Q : List E) (e : E) → Mem e Q → (X : List E) × (Q ≡ Q₀ ++ X) → (X : List E) × (Q ++ fresh node same Q (children e) ≡ Q₀ ++ X)
      more Q e m t = let F : List E = fresh node same Q (children e) in (t.0 ++ F, ap (λ l. l ++ F) t.1 ∙ append_assoc Q₀ t.0 F)

module _ {E Node : Type 0} (node : E → Node) (same : Node → Node → Bool) (equal : IsEquality same) (children : E → List E) where
  -- what children have from their parents, all have
  pub expand_all : (P : E → Type 0) → ((e c : E) → P e → Mem c (children e) → P c) → (n : ℕ) (done todo : List E) → All P (done ++ todo)
      → All P (expand node same children n done todo)
  expand_all P pass =
      expand_keeps node same children (All P) (λ Q e m p. fresh_all node same equal P Q (children e) (λ c. pass e c (p e m)) p)

  module _ (R : E → E → Type 0) (steady : Steady children R) where
    ordered_step : (done : List E) (e : E) (todo : List E) → Ordered node children R done (e ∷ todo)
        → Ordered node children R (done ++ (e ∷ [])) (todo ++ fresh node same (done ++ (e ∷ todo)) (children e))
    ordered_step done e todo o =
        record {
          ascends = rw (append_move done e todo F) (ascending_join R Q F o.ascends above (λ x y m n. after x y m (child y n)));
          ahead = λ f g c m n. before f g c (Memᴰ.append_cases todo m) (Memᴰ.append_cases todo n);
          closed = λ d c m k. rw (append_move done e todo F) (has d c (Memᴰ.append_cases done m) k);
        }
      where
        Q : List E
        Q = done ++ (e ∷ todo)

        F : List E
        F = fresh node same Q (children e)

        child : All (λ c. Mem c (children e)) F
        child = fresh_only node same equal Q (children e)

        above : Ascending R F
        above = fresh_ascends node same equal R Q (children e) (steady.children_ascend e)

        after : (f c : E) → Mem f Q → Mem c (children e) → R f c
        after f c m k =
            ⊎_elim
            (λ d. steady.transitive f e c (ascending_across R done (e ∷ todo) o.ascends f e d (here refl)) (steady.child_after e c k))
            (λ t. o.ahead f e c t (here refl) k)
            (Memᴰ.append_cases done m)

        before : (f g c : E) → Mem f todo ⊎ Mem f F → Mem g todo ⊎ Mem g F → Mem c (children g) → R f c
        before f g c (inl m) (inl n) k = o.ahead f g c (there m) (there n) k
        before f g c (inl m) (inr n) k =
            steady.transitive f g c (o.ahead f e g (there m) (here refl) (child g n)) (steady.child_after g c k)
        before f g c (inr m) (inl n) k =
            steady.children_follow e g f c ((ascending_right R done (e ∷ todo) o.ascends).0 g n) (child f m) k
        before f g c (inr m) (inr n) k = steady.children_follow e g f c (steady.child_after e g (child g n)) (child f m) k

        has : (d c : E) → Mem d done ⊎ Mem d (e ∷ []) → Mem c (children d) → Has node R (Q ++ F) c
        has d c (inl m) k = has_more node R c Q F (o.closed d c m k)
        has d c (inr m) k =
            let k' : Mem c (children e) = subst (λ x. Mem c (children x)) (Memᴰ.eq_of_singleton m) k in
            fresh_has node same equal R Q (children e) (steady.children_ascend e) c k' (λ f n. after f c n k')

    -- where the fuel was enough all is done
    pub expand_ordered : (n : ℕ) (done todo : List E) → Ordered node children R done todo
        → length (expand node same children n done todo) ≤ n → Ordered node children R (expand node same children n done todo) []
    expand_ordered n done todo o enough = subst₂ (Ordered node children R) all left end.holds
      where
        Q : List E
        Q = expand node same children n done todo

        end : Ended (Ordered node children R) (length done + n) Q
        end = expand_ends node same children (Ordered node children R) ordered_step n done todo o

        left : end.rest ≡ []
        left = ⊎_elim (λ e. e) (λ e. empty end.rest (omega (arith, enough, simp length-append at (ap length end.whole)))) end.ended

        all : end.front ≡ Q
        all = sym (end.whole ∙ ap (λ t. end.front ++ t) left ∙ append-nil end.front)
