-- Loops that ask a test of each number, and stop where it fails.
use Rattle.std.specs.Prelude.{ℕ, zero, suc, ◌+◌, ◌≤◌, ◌<◌, ◌≡◌, refl, Bool, true, false}
use Rattle.std.proofs.Common.{sym, ap, ◌∙◌, arith}
use Rattle.numbers.specs.Laws.Written.{at_or_other}

-- go on with b if the test holds
abbrev pub if_holds : Bool → Bool → Bool
if_holds test b = elim test [ true ↦ b | false ↦ false ]

-- a loop that asks a test of each number from i on, and stops where it fails
pub record Asks (loop : ℕ → ℕ → Bool) (test : ℕ → Bool) : Type 0 where
  pub stop : (i : ℕ) → loop zero i ≡ true
  pub round : (left i : ℕ) → loop (suc left) i ≡ if_holds (test i) (loop left (i + 1))

module _ {loop : ℕ → ℕ → Bool} {test : ℕ → Bool} (asks : Asks loop test) where
  pub asks_holds : (left i : ℕ) → loop left i ≡ true → (k : ℕ) → i ≤ k → k < i + left → test k ≡ true
  asks_holds zero i e k l h = absurd (omega arith)
  asks_holds (suc left) i e k l h = go (asks_holds left (i + 1)) (test i) refl (sym (asks.round left i) ∙ e)
    where
      go : (loop left (i + 1) ≡ true → (j : ℕ) → i + 1 ≤ j → j < i + 1 + left → test j ≡ true) → (b : Bool) → test i ≡ b
          → if_holds b (loop left (i + 1)) ≡ true → test k ≡ true
      go later true f g =
          at_or_other (λ j. i ≤ j → j < i + suc left → test j ≡ true) i k (λ _ _. f)
          (λ d l' h'. later g k (omega arith) (omega arith)) l h
      go later false f g = cc

  pub holds_asks : (left i : ℕ) → ((k : ℕ) → i ≤ k → k < i + left → test k ≡ true) → loop left i ≡ true
  holds_asks zero i h = asks.stop i
  holds_asks (suc left) i h =
      asks.round left i
      ∙ ap (λ b. if_holds b (loop left (i + 1))) (h i (omega arith) (omega arith))
      ∙ holds_asks left (i + 1) (λ k l g. h k (omega arith) (omega arith))
