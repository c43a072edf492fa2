-- Searching from starts one after the other: what it keeps, and what holds of it where the fuel was enough.
use Rattle.std.specs.Prelude.{◌≡◌, refl, Bool, ℕ, ◌≤◌, length}
use Rattle.std.proofs.Common.{subst, sym, arith, le_refl, length-append}
use mathlib.Core.List.Memᴰ
use mathlib.Core.List.{List, [], ◌∷◌, ◌++◌, append-nil}
use Rattle.theory_exploration.specs.Mem.{Mem, here, there, All, Ascending}
use Rattle.theory_exploration.specs.Laws.Mem.{all_none, all_one, ascending_one, ascending_join}
use Rattle.theory_exploration.specs.Explore.{IsEquality, fresh, expand, rounds}
use Rattle.theory_exploration.specs.Laws.Fresh.{Has, has_more, fresh_only, fresh_all, fresh_ascends, fresh_has}
use Rattle.theory_exploration.specs.Laws.Expand.{Steady, Ordered, expand_keeps, expand_all, expand_ordered}

-- all is in order and nothing is missing: neither children nor starts
pub record Whole {E Node : Type 0} (node : E → Node) (children : E → List E) (R : E → E → Type 0) (starts Q : List E) : Type 0 where
  pub ordered : Ordered node children R Q []
  pub started : All (Has node R Q) starts

module _ {E Node : Type 0} (node : E → Node) (same : Node → Node → Bool) (children : E → List E) (fuel : ℕ) where
  -- what adding children and starts keeps
  pub rounds_keep : (K : List E → Type 0) → ((Q : List E) (e : E) → Mem e Q → K Q → K (Q ++ fresh node same Q (children e)))
      → (starts : List E) → ((Q : List E) (s : E) → Mem s starts → K Q → K (Q ++ fresh node same Q (s ∷ [])))
      → (Q : List E) → K Q → K (rounds node same children fuel starts Q)
  unfolding rounds
  rounds_keep K step [] begin Q k = k
  rounds_keep K step (s ∷ starts) begin Q k =
      let F : List E = fresh node same Q (s ∷ []) in
      let k₁ : K (expand node same children fuel Q F) = expand_keeps node same children K step fuel Q F (begin Q s (here refl) k) in
      rounds_keep K step starts (λ Q t m. begin Q t (there m)) (expand node same children fuel Q F) k₁

  -- what more entries keep
  pub rounds_grow : (K : List E → Type 0) → ((Q F : List E) → K Q → K (Q ++ F)) → (starts Q : List E) → K Q
      → K (rounds node same children fuel starts Q)
  rounds_grow K grow starts =
      rounds_keep K (λ Q e m. grow Q (fresh node same Q (children e))) starts (λ Q s m. grow Q (fresh node same Q (s ∷ [])))

  pub rounds_longer : (starts Q : List E) → length Q ≤ length (rounds node same children fuel starts Q)
  rounds_longer starts Q = rounds_grow (λ L. length Q ≤ length L) longer starts Q (le_refl (length Q))
    where
      longer : (L F : List E) → length Q ≤ length L → length Q ≤ length (L ++ F)
      longer L F h = simp length-append (omega arith)

module _ {E Node : Type 0} (node : E → Node) (same : Node → Node → Bool) (equal : IsEquality same) (children : E → List E) (fuel : ℕ) where
  -- what starts have, and children from their parents, all have
  pub rounds_all : (P : E → Type 0) → ((e c : E) → P e → Mem c (children e) → P c) → (starts : List E) → All P starts
      → All P (rounds node same children fuel starts [])
  rounds_all P pass starts p =
      rounds_keep node same children fuel (All P)
      (λ Q e m q. fresh_all node same equal P Q (children e) (λ c. pass e c (q e m)) q)
      starts
      (λ Q s m. fresh_all node same equal P Q (s ∷ []) (all_one P s (p s m)))
      []
      (all_none P)

  module _ (R : E → E → Type 0) (steady : Steady children R) where
    -- one round: all that is there comes before the start
    module _ (s : E) (Q : List E) (early : (x : E) → Mem x Q → R x s) where
      begin : Ordered node children R Q [] → Ordered node children R Q (fresh node same Q (s ∷ []))
      begin o =
          record {
            ascends = ascending_join R Q F (rw append-nil at o.ascends) above (λ x y m n. subst (R x) (sym (is_start y n)) (early x m));
            ahead = λ f e c m n k. subst (λ x. R x c) (sym (is_start f m)) (steady.child_after s c (child e c (is_start e n) k));
            closed = λ e c m k. has_more node R c Q F (rw append-nil at (o.closed e c m k));
          }
        where
          F : List E
          F = fresh node same Q (s ∷ [])

          above : Ascending R F
          above = fresh_ascends node same equal R Q (s ∷ []) (ascending_one R s)

          child : (e c : E) → e ≡ s → Mem c (children e) → Mem c (children s)
          child e c q k = subst (λ x. Mem c (children x)) q k

          is_start : All (λ y. y ≡ s) F
          is_start y n = Memᴰ.eq_of_singleton (fresh_only node same equal Q (s ∷ []) y n)

      has_start : Has node R (expand node same children fuel Q (fresh node same Q (s ∷ []))) s
      has_start =
          expand_keeps node same children (λ L. Has node R L s) (λ L e m. has_more node R s L (fresh node same L (children e))) fuel Q
          (fresh node same Q (s ∷ []))
          (fresh_has node same equal R Q (s ∷ []) (ascending_one R s) s (here refl) early)

    join : (s : E) (starts Q : List E) → Has node R Q s → Whole node children R starts Q → Whole node children R (s ∷ starts) Q
    join s starts Q h w = record { ordered = w.ordered; started = each }
      where
        each : All (Has node R Q) (s ∷ starts)
        each t (here e) = subst (Has node R Q) (sym e) h
        each t (there m) = w.started t m

    -- children of what comes before a start do so too: then rounds follow each other in order
    pub rounds_whole : (starts Q : List E) → Ascending R starts → ((s : E) → Mem s starts → (e c : E) → R e s → Mem c (children e) → R c s)
        → All (λ x. All (R x) starts) Q → Ordered node children R Q [] → length (rounds node same children fuel starts Q) ≤ fuel
        → Whole node children R starts (rounds node same children fuel starts Q)
    unfolding rounds
    rounds_whole [] Q asc low early o enough = record { ordered = o; started = all_none (Has node R Q) }
    rounds_whole (s ∷ starts) Q asc low early o enough =
        join s starts T
        (rounds_grow node same children fuel (λ L. Has node R L s) (has_more node R s) starts Q₁ (has_start s Q before))
        (rounds_whole starts Q₁ asc.1 (λ t m. low t (there m)) early₁ o₁ enough)
      where
        F : List E
        F = fresh node same Q (s ∷ [])

        Q₁ : List E
        Q₁ = expand node same children fuel Q F

        T : List E
        T = rounds node same children fuel starts Q₁

        before : All (λ x. R x s) Q
        before x m = early x m s (here refl)

        Early : E → Type 0
        Early x = All (R x) starts

        early₀ : All Early (Q ++ F)
        early₀ = fresh_all node same equal Early Q (s ∷ []) (all_one Early s asc.0) (λ x m t n. early x m t (there n))

        early₁ : All Early Q₁
        early₁ = expand_all node same equal children Early (λ e c p k t m. low t (there m) e c (p t m) k) fuel Q F early₀

        o₁ : Ordered node children R Q₁ []
        o₁ =
            expand_ordered node same equal children R steady fuel Q F (begin s Q before o)
            (omega (arith, rounds_longer node same children fuel starts Q₁))
