-- Loops over a file: what a round reads and where it puts it, and the law that a loop keeps what each of its rounds keeps.
use Rattle.std.specs.Prelude.{ℕ, zero, suc, ◌+◌, ◌<◌, ◌≡◌}
use Rattle.std.proofs.Common.{sym, ap, ap₂, subst, ◌∙◌, arith}
use Rattle.numbers.specs.Part.{Part, got, and_then}
use Rattle.numbers.specs.Laws.Parts.{and_then_got, same_value, same_place_lem}

module _ {S B : Type 0} where
  -- round i reads a value at the loop's place and puts it into the state
  pub record Rounds (loop : ℕ → ℕ → ℕ → S → Part S) (read : ℕ → ℕ → S → Part B) (put : ℕ → B → S → S) : Type 0 where
    pub stop : (i at : ℕ) (x : S) → loop zero i at x ≡ got x at
    pub round : (left i at : ℕ) (x : S)
        → loop (suc left) i at x ≡ and_then (read i at x) (λ v next. loop left (i + 1) next (put i v x))

  module _ {loop : ℕ → ℕ → ℕ → S → Part S} {read : ℕ → ℕ → S → Part B} {put : ℕ → B → S → S} (rounds : Rounds loop read put)
      (I : ℕ → S → Type 0) (hi : ℕ)
      (keeps : (i at : ℕ) (x : S) (v : B) (next : ℕ) → i < hi → read i at x ≡ got v next → I i x → I (i + 1) (put i v x)) where
    pub rounds_keep : (left i at : ℕ) (x : S) {y : S} {next : ℕ} → i + left ≡ hi → loop left i at x ≡ got y next → I i x → I hi y
    rounds_keep zero i at x n e h =
        subst (I hi) (same_value (sym (rounds.stop i at x) ∙ e)) (subst (λ k. I k x) (omega arith) h)
    rounds_keep (suc left) i at x n e h =
        let t = and_then_got (read i at x) (sym (rounds.round left i at x) ∙ e) in
        rounds_keep left (i + 1) t.place (put i t.value x) (omega arith) t.then
        (keeps i at x t.value t.place (omega arith) t.first h)

  -- a round more at the loop's end
  module _ {loop : ℕ → ℕ → ℕ → S → Part S} {read : ℕ → ℕ → S → Part B} {put : ℕ → B → S → S} (rounds : Rounds loop read put) where
    pub rounds_more : (left i at : ℕ) (x : S) (j : ℕ) {y : S} {p : ℕ} {v : B} {next : ℕ} → j ≡ i + left → loop left i at x ≡ got y p
        → read j p y ≡ got v next → loop (suc left) i at x ≡ got (put j v y) next
    rounds_more zero i at x j {y} {p} {v} {next} n e f =
        let here = sym (rounds.stop i at x) ∙ e in
        let same : i ≡ j = omega arith in
        let first : read i at x ≡ got v next =
        ap (λ k. read k at x) same ∙ ap₂ (λ a z. read j a z) (same_place_lem here) (same_value here) ∙ f in
        rounds.round zero i at x ∙ ap (λ z. and_then z (λ w n. loop zero (i + 1) n (put i w x))) first
        ∙ rounds.stop (i + 1) next (put i v x) ∙ ap₂ (λ k z. got (put k v z) next) same (same_value here)
    rounds_more (suc left) i at x j {y} {p} {v} {next} n e f =
        let t = and_then_got (read i at x) (sym (rounds.round left i at x) ∙ e) in
        rounds.round (suc left) i at x ∙ ap (λ z. and_then z (λ w m. loop (suc left) (i + 1) m (put i w x))) t.first
        ∙ rounds_more left (i + 1) t.place (put i t.value x) j (omega arith) t.then f
