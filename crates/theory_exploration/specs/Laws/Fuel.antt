-- Fuel that was enough is as good as more: the exploration is the same.
use Rattle.std.specs.Prelude.{◌≡◌, Bool, length}
use Rattle.std.proofs.Math.Path.{refl, ap, sym}
use Rattle.std.proofs.Common.{◌∙◌, arith}
use Rattle.std.proofs.Math.Option.{Option}
use mathlib.Core.List.{List, [], ◌∷◌, ◌++◌, append-nil}
use Prim.Native.Nat.{ℕ, zero, suc, ◌+◌, ◌≤◌}
use Rattle.std.proofs.Math.ListN.{length-append}
use Rattle.theory_exploration.specs.Laws.Mem.{empty}
use Rattle.theory_exploration.specs.Explore.{fresh, expand, rounds, starts, children, explore}
use Rattle.theory_exploration.specs.Laws.Rounds.{rounds_longer}

module _ {E Node : Type 0} (node : E → Node) (same : Node → Node → Bool) (children : E → List E) where
  -- nothing is left to do, whatever the fuel
  pub expand_nothing : (m : ℕ) (done : List E) → expand node same children m done [] ≡ done
  unfolding expand
  expand_nothing zero done = append-nil done
  expand_nothing (suc m) done = refl

  expand_fuel : (n m : ℕ) → n ≤ m → (done todo : List E) → length (expand node same children n done todo) ≤ length done + n
      → expand node same children m done todo ≡ expand node same children n done todo
  unfolding expand
  expand_fuel zero m l done todo enough =
      let left : todo ≡ [] = empty todo (omega (arith, length-append done todo)) in
      rw left (expand_nothing m done ∙ sym (append-nil done))
  expand_fuel (suc n) zero l done todo enough = absurd (omega arith)
  expand_fuel (suc n) (suc m) l done [] enough = refl
  expand_fuel (suc n) (suc m) l done (e ∷ todo) enough =
      let F : List E = fresh node same (done ++ (e ∷ todo)) (children e) in
      expand_fuel n m (omega arith) (done ++ (e ∷ [])) (todo ++ F) (simp length-append (omega arith))

  rounds_fuel : (n m : ℕ) → n ≤ m → (starts Q : List E) → length (rounds node same children n starts Q) ≤ n
      → rounds node same children m starts Q ≡ rounds node same children n starts Q
  unfolding rounds
  rounds_fuel n m l [] Q enough = refl
  rounds_fuel n m l (s ∷ starts) Q enough =
      let F : List E = fresh node same Q (s ∷ []) in
      let Q₁ : List E = expand node same children n Q F in
      let this = expand_fuel n m l Q F (omega (arith, rounds_longer node same children n starts Q₁)) in
      ap (rounds node same children m starts) this ∙ rounds_fuel n m l starts Q₁ enough

module _ {Node : Type 0} (M : ℕ) (δ : Node → ℕ → Option Node) (same : Node → Node → Bool) (roots : List Node) where
  pub more_fuel : (fuel fuel' : ℕ) → length (explore M δ same roots fuel) ≤ fuel → fuel ≤ fuel'
      → explore M δ same roots fuel' ≡ explore M δ same roots fuel
  unfolding explore
  more_fuel fuel fuel' enough l = rounds_fuel (λ e. e.at) same (children M δ) fuel fuel' l (starts 0 roots) [] enough
