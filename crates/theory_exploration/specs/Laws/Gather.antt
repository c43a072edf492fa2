-- What a function gives for so many numbers: all of it is there, and nothing else; and it is given step by step.
use Prim.Native.Nat.{ℕ, zero, suc, ◌+◌, ◌-◌, ◌≤◌, ◌<◌}
use Rattle.std.specs.Prelude.{◌≡◌, Bool, true, false, ltb}
use Rattle.std.proofs.Math.Path.{refl, ap}
use Rattle.std.proofs.Common.{sym, subst, ◌∙◌, ltb-true, ltb-false, sub-eq-zero_of_le}
use Rattle.std.proofs.Math.Option.{Option, none, some}
use mathlib.Core.List.Memᴰ
use mathlib.Core.List.{List, [], ◌∷◌}
use native.Mathlib.Omega.{arith}
use Rattle.theory_exploration.specs.Mem.{Mem, here, there}
use Rattle.theory_exploration.specs.Growing.{gather}

-- what the first number gives, before the rest
abbrev before : Option ℕ → List ℕ → List ℕ
before o rest = elim o [ none ↦ rest | some k ↦ k ∷ rest ]

module _ (f : ℕ → Option ℕ) where
  pub gather_has : (left i n k : ℕ) → f n ≡ some k → i ≤ n → n < i + left → Mem k (gather f left i)
  unfolding gather
  gather_has zero i n k e l h = absurd (omega arith)
  gather_has (suc left) i n k e l h =
      by_test (ltb i n) refl (λ c. gather_has left (i + 1) n k e (omega arith) (omega arith))
    where
      rest : List ℕ
      rest = gather f left (i + 1)

      later : (o : Option ℕ) → Mem k rest → Mem k (before o rest)
      later none m = m
      later (some j) m = there m

      by_test : (b : Bool) → ltb i n ≡ b → (i < n → Mem k rest) → Mem k (before (f i) rest)
      by_test true t below = later (f i) (below (ltb-true i n t))
      by_test false t below =
          let c = ltb-false i n t in
          let x : n ≡ i = omega arith in
          subst (λ o. Mem k (before o rest)) (sym e ∙ ap f x) (here refl)

  pub gather_is : (left i k : ℕ) → Mem k (gather f left i) → (n : ℕ) × (i ≤ n) × (n < i + left) × (f n ≡ some k)
  unfolding gather
  gather_is zero i k m = absurd (Memᴰ.not-nil m)
  gather_is (suc left) i k m = go (f i) refl m (gather_is left (i + 1) k)
    where
      go : {rest : List ℕ} (o : Option ℕ) → f i ≡ o → Mem k (before o rest)
          → (Mem k rest → (n : ℕ) × (i + 1 ≤ n) × (n < i + 1 + left) × (f n ≡ some k))
          → (n : ℕ) × (i ≤ n) × (n < i + suc left) × (f n ≡ some k)
      go none e m later = let (n, l, h, g) = later m in (n, omega arith, omega arith, g)
      go (some j) e (here z) later = (i, omega arith, omega arith, e ∙ ap some (sym z))
      go (some j) e (there m) later = let (n, l, h, g) = later m in (n, omega arith, omega arith, g)

  module _ {end i : ℕ} where
    one_more_lem : i < end → end - i ≡ suc (end - (i + 1))
    one_more_lem h = omega arith

    pub gather_skip : i < end → f i ≡ none → gather f (end - i) i ≡ gather f (end - (i + 1)) (i + 1)
    unfolding gather
    gather_skip h e = rw (one_more_lem h, e, gather)

    pub gather_on : {k : ℕ} → i < end → f i ≡ some k → gather f (end - i) i ≡ k ∷ gather f (end - (i + 1)) (i + 1)
    unfolding gather
    gather_on h e = rw (one_more_lem h, e, gather)

    pub gather_end : end ≤ i → gather f (end - i) i ≡ []
    unfolding gather
    gather_end h = ap (λ left. gather f left i) (sub-eq-zero_of_le h)
