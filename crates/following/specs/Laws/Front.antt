-- The front of contents: the messages below the cut, turn by turn, and what is behind them.
use Rattle.std.specs.Prelude.{ℕ, suc, ◌+◌, ◌-◌, ◌≤◌, ◌<◌, ◌≡◌, refl, List, [], ◌∷◌, ltb, length, get_or, take, drop}
use Rattle.std.proofs.Common.{ap, ap₂, ◌∙◌, arith, drop-cons, lt-ltb, le-ltb}
use Rattle.std.proofs.Math.Nat.{sub-zero}
use Rattle.numbers.specs.Laws.Parts.{one_more_lem}
use Rattle.theory_model.specs.Diagram.{front_of, rest_of}
use Rattle.theory_model.specs.Laws.Basics.{by_test}
use Rattle.following.specs.Standing.{word_over}
use Rattle.following.specs.After.{FrontEnds}

-- what stands before the end of the front and behind it
pub front_taken : (hi : ℕ) (u : List ℕ) → take (length (front_of hi u)) u ≡ front_of hi u
front_taken hi [] = refl
front_taken hi (m ∷ u) =
    by_test (ltb m hi) (λ t. rw (t, front_of) (ap {B = List ℕ} (λ l. m ∷ l) (front_taken hi u))) (λ f. rw (f, front_of))

pub front_dropped : (hi : ℕ) (u : List ℕ) → drop (length (front_of hi u)) u ≡ rest_of hi u
front_dropped hi [] = refl
front_dropped hi (m ∷ u) = by_test (ltb m hi) (λ t. rw (t, front_of, rest_of) (front_dropped hi u)) (λ f. rw (f, front_of, rest_of))

pub front_short : (hi : ℕ) (u : List ℕ) → length (front_of hi u) ≤ length u
front_short hi [] = omega arith
front_short hi (m ∷ u) = by_test (ltb m hi) (λ t. rw (t, front_of) (omega (arith, front_short hi u))) (λ f. rw (f, front_of) (omega arith))

-- UNDERWAY: i messages are in the front of u, and v is left
pub record Fronting (hi : ℕ) (u : List ℕ) (i : ℕ) (v : List ℕ) : Type 0 where
  pub is : i + length (front_of hi v) ≡ length (front_of hi u)

abbrev pub left_of : List ℕ → ℕ → ℕ → List ℕ
left_of contents shown i = word_over contents i (shown - i)

module _ (contents : List ℕ) (shown : ℕ) where
  left_next : {i : ℕ} → i < shown → shown ≤ length contents → left_of contents shown i ≡ get_or contents i 0 ∷ left_of contents shown (i + 1)
  left_next {i} h g =
      ap₂ (λ k l. take k l) (one_more_lem h) (drop-cons contents i 0 (omega arith))
      ∙ ap (λ j. get_or contents i 0 ∷ word_over contents j (shown - (i + 1))) (let z : suc i ≡ i + 1 = omega arith in z)

  module _ {hi : ℕ} where
    pub front_begin : Fronting hi (take shown contents) 0 (left_of contents shown 0)
    front_begin = record { is = ap (λ k. 0 + length (front_of hi (take k contents))) (sub-zero shown) ∙ omega arith }

    module _ {i : ℕ} (F : Fronting hi (take shown contents) i (left_of contents shown i)) where
      pub front_next : i < shown → shown ≤ length contents → get_or contents i 0 < hi → Fronting hi (take shown contents) (i + 1) (left_of contents shown (i + 1))
      front_next h g l =
          let one : length (front_of hi (left_of contents shown i)) ≡ suc (length (front_of hi (left_of contents shown (i + 1))))
          = ap (λ v. length (front_of hi v)) (left_next h g) ∙ rw (lt-ltb (get_or contents i 0) hi l, front_of) in
          record { is = omega (arith, F.is) }

      pub front_stops : i < shown → shown ≤ length contents → hi ≤ get_or contents i 0 → FrontEnds contents shown hi i
      front_stops h g l =
          let none_more : length (front_of hi (left_of contents shown i)) ≡ 0
          = ap (λ v. length (front_of hi v)) (left_next h g) ∙ rw (le-ltb (get_or contents i 0) hi l, front_of) in
          record { is = omega (arith, F.is) }

      pub front_ends : shown ≤ i → FrontEnds contents shown hi i
      front_ends h =
          let none_left : length (front_of hi (left_of contents shown i)) ≡ 0
          = ap (λ k. length (front_of hi (word_over contents i k))) (let z : shown - i ≡ 0 = omega arith in z) in
          record { is = omega (arith, F.is) }
