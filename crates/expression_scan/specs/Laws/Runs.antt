-- The bytes at a place that pass a test: one more, none, and where they end.
use Rattle.std.specs.Prelude.{◌≡◌, Bool, get_or, take, drop, ltb}
use Rattle.std.proofs.Math.Path.{refl, sym, ap}
use Rattle.std.proofs.Math.Seq.{take-length}
use Rattle.std.proofs.Math.Bool.{true, false, cond}
use mathlib.Core.List.{List, [], ◌∷◌}
use Prim.Native.Nat.{ℕ, suc, ◌+◌, ◌-◌, ◌≤◌, ◌<◌}
use Rattle.std.proofs.Math.ListN.{length}
use Rattle.std.proofs.Common.{length-drop, drop_of_length-le, drop-cons, get_or-drop, ltb-true, ltb-false, add-one, ◌∙◌}
use native.Mathlib.Omega.{arith}
use Rattle.theory_model.specs.Laws.Basics.{by_test}
use Rattle.expression_scan.specs.Runs.{leading}

-- the text from a place on begins with the byte there
pub drop_byte : (s : List ℕ) {i : ℕ} → i < length s → drop i s ≡ get_or s i 0 ∷ drop (i + 1) s
drop_byte s {i} h = rw (add-one, drop-cons s i 0)

-- the text from a place on, as a slice up to its end
pub rest_is : (s : List ℕ) (at : ℕ) → take (length s - at) (drop at s) ≡ drop at s
rest_is s at = ap (λ n. take n (drop at s)) (sym (length-drop at s)) ∙ take-length (drop at s)

module _ (test : ℕ → Bool) where
  most : (u : List ℕ) → leading test u ≤ length u
  unfolding leading
  most [] = omega arith
  most (b ∷ u) = by (test b) (most u)
    where
      by : (t : Bool) → leading test u ≤ length u → cond t (suc (leading test u)) 0 ≤ suc (length u)
      by true h = omega arith
      by false h = omega arith

  ends : test 0 ≡ false → (u : List ℕ) → test (get_or u (leading test u) 0) ≡ false
  unfolding leading
  ends z [] = z
  ends z (b ∷ u) = by (test b) refl (ends z u)
    where
      by : (t : Bool) → test b ≡ t → test (get_or u (leading test u) 0) ≡ false
          → test (get_or (b ∷ u) (cond t (suc (leading test u)) 0) 0) ≡ false
      by true e h = h
      by false e h = e

  module _ (s : List ℕ) (i : ℕ) where
    pub leading_on : i < length s → test (get_or s i 0) ≡ true → leading test (drop i s) ≡ suc (leading test (drop (i + 1) s))
    unfolding leading
    leading_on h e = rw (drop_byte s h, leading, e)

    pub leading_none : (i < length s → test (get_or s i 0) ≡ false) → leading test (drop i s) ≡ 0
    unfolding leading
    leading_none e =
        by_test (ltb i (length s))
        (λ t. let h : i < length s = omega (arith, ltb-true) in rw (drop_byte s h, leading, e h))
        (λ t. let h : length s ≤ i = omega (arith, ltb-false) in rw (drop_of_length-le s h, leading))

    pub leading_within : i ≤ length s → i + leading test (drop i s) ≤ length s
    leading_within h = omega (arith, most (drop i s), length-drop i s)

    pub leading_ends : test 0 ≡ false → test (get_or s (i + leading test (drop i s)) 0) ≡ false
    leading_ends z = rw get_or-drop at (ends z (drop i s))

    -- where there are any, the first byte is one
    pub leading_some : 0 < leading test (drop i s) → (i < length s) × (test (get_or s i 0) ≡ true)
    leading_some h = (
      by_test (ltb i (length s)) (λ t. omega (arith, ltb-true)) (λ t. absurd (omega (arith, leading_none (λ l. absurd (omega (arith, ltb-false)))))),
      by_test (test (get_or s i 0)) (λ t. t) (λ t. absurd (omega (arith, leading_none (λ l. t)))),
    )
