-- Parts that a loop puts one after the other make one text.
use Rattle.std.specs.Prelude.{ℕ, ◌+◌, ◌-◌, ◌≤◌, ◌<◌, ◌≡◌, List}
use Rattle.std.proofs.Common.{subst, arith, sub-eq-zero_of_le}
use Rattle.numbers.specs.Put.{Put}
use Rattle.numbers.specs.Laws.Parts.{one_more_lem}
use Rattle.numbers.specs.Laws.Put.{Left, left_start, left_put, left_end}
use Rattle.theory_format.specs.Spelled.{each}

module _ {entry text now : List ℕ} {at p : ℕ} (part : ℕ → List ℕ) (n i : ℕ) where
  -- round i puts part i
  pub left_part : {after : List ℕ} {q most : ℕ} → i < n → Left entry at text now p (each part (n - i) i) → Put now p most (part i) after q
      → Left entry at text after q (each part (n - (i + 1)) (i + 1))
  unfolding each
  left_part h l w =
      left_put (part i) (each part (n - (i + 1)) (i + 1)) (subst (λ (k : ℕ). Left entry at text now p (each part k i)) (one_more_lem h) l) w

  -- when no round is left, the whole text is put
  pub left_parts : (most : ℕ) → n ≤ i → Left entry at text now p (each part (n - i) i) → p ≤ at + most → Put entry at most text now p
  unfolding each
  left_parts most h l = left_end most (subst (λ (k : ℕ). Left entry at text now p (each part k i)) (sub-eq-zero_of_le h) l)

-- before the first of so many rounds
pub left_first : (part : ℕ → List ℕ) (s : List ℕ) (at first count : ℕ)
    → Left s at (each part count first) s at (each part (first + count - first) first)
left_first part s at first count =
    let all : count ≡ first + count - first = omega arith in
    subst (λ (k : ℕ). Left s at (each part count first) s at (each part k first)) all (left_start s at (each part count first))
