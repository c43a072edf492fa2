-- The numbers of a trace: one takes a byte at least and stays within the trace; and how one below a limit is read or refused.
use Rattle.std.specs.Prelude.{ℕ, ◌+◌, ◌-◌, ◌*◌, ◌≤◌, ◌<◌, ◌≡◌, refl, Bool, true, false, cond, ◌⊎◌, List, length, ltb}
use Rattle.std.proofs.Math.Path.{subst}
use Rattle.std.proofs.Common.{inl, inr, arith}
use Rattle.std.proofs.Math.ListN.{get_or}
use borrow.Author.Tests.{ltb-true, lt-ltb}
use Rattle.numbers.specs.Part.{Part, got, refused, provided, and_then}
use Rattle.numbers.specs.Number.{read_number, read_below}
use Rattle.numbers.specs.Laws.Places.{Told, number_told}

-- what was read ends after its first byte and within the trace
module _ (s : List ℕ) (at : ℕ) where
  abbrev After : Part ℕ → Type 0
  After (got v next) = (at < next) × (next ≤ length s)
  After (refused k p) = Unit {0}

  after_provided : (b : Bool) (k p : ℕ) (x : Part ℕ) → (b ≡ true → After x) → After (provided b k p x)
  after_provided true k p x f = f refl
  after_provided false k p x f = tt

  after_cond : (b : Bool) (x y : Part ℕ) → After x → After y → After (cond b x y)
  after_cond true x y f g = f
  after_cond false x y f g = g

  number_ends : After (read_number s at)
  unfolding read_number
  number_ends =
      after_provided (ltb at (length s)) 3 (length s) _ (λ e₁.
      let h₁ = ltb-true at (length s) e₁ in
      after_cond (ltb (get_or s at 0) 128) (got (get_or s at 0) (at + 1)) _ (omega arith)
      (after_provided (ltb (at + 1) (length s)) 3 (length s) _ (λ e₂.
      let h₂ = ltb-true (at + 1) (length s) e₂ in
      after_provided (ltb 0 (get_or s (at + 1) 0)) 4 at _ (λ _.
      after_provided (ltb (get_or s (at + 1) 0) 128) 4 at (got (get_or s at 0 - 128 + 128 * get_or s (at + 1) 0) (at + 2)) (λ _. omega arith)))))

  pub number_after : {v next : ℕ} → read_number s at ≡ got v next → (at < next) × (next ≤ length s)
  number_after e = subst After e number_ends

  -- what stands there is read as a number below the limit, if it is below it
  pub below_read : {v next : ℕ} (limit : ℕ) → read_number s at ≡ got v next → v < limit → read_below s at limit ≡ got v next
  unfolding read_below
  below_read {v} limit e h = rw (e, lt-ltb v limit h)

  -- 3 at the end of the trace, 4 and 5 at the number's first byte
  abbrev pub Refusal : ℕ → ℕ → Type 0
  Refusal k p = ((k ≡ 3) × (p ≡ length s)) ⊎ (((k ≡ 4) ⊎ (k ≡ 5)) × (p ≡ at))

  abbrev Refuses : Part ℕ → Type 0
  Refuses (got v next) = Unit {0}
  Refuses (refused k p) = Refusal k p

  below_refuses : (x : Part ℕ) (limit : ℕ) → Told s at x → Refuses (and_then x (λ v next. provided (ltb v limit) 5 at (got v next)))
  below_refuses (refused k p) limit (inl (a, b)) = inl (a, b)
  below_refuses (refused k p) limit (inr (a, b)) = inr (inl a, b)
  below_refuses (got v next) limit t = by_test (ltb v limit)
    where
      by_test : (b : Bool) → Refuses (provided b 5 at (got v next))
      by_test true = tt
      by_test false = inr (inr refl, refl)

  pub below_refused : {k p : ℕ} (limit : ℕ) → read_below s at limit ≡ refused k p → Refusal k p
  unfolding read_below
  below_refused limit e = subst Refuses e (below_refuses (read_number s at) limit (number_told s at))

  -- so by none of the other numbers
  pub refusal_number : {k p : ℕ} → Refusal k p → (3 ≤ k) × (k ≤ 5)
  refusal_number (inl (a, _)) = omega arith
  refusal_number (inr (inl a, _)) = omega arith
  refusal_number (inr (inr a, _)) = omega arith

  pub refusal_within : {k p : ℕ} → at ≤ length s → Refusal k p → p ≤ length s
  refusal_within h (inl (_, b)) = omega arith
  refusal_within h (inr (_, b)) = omega arith
