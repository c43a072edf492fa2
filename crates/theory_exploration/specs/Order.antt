-- The order of words: shorter first, and of one length the lower at the first letter that differs.
use Rattle.std.specs.Prelude.{◌≡◌, ◌⊎◌, List, [], ◌∷◌, ℕ, ◌<◌, length}

-- lower at the first letter that differs, of words of one length
abbrev pub Lower : List ℕ → List ℕ → Type 0
Lower [] [] = ⊥
Lower [] (n ∷ v) = ⊥
Lower (m ∷ u) [] = ⊥
Lower (m ∷ u) (n ∷ v) = (m < n) ⊎ ((m ≡ n) × Lower u v)

abbrev pub Shortlex : List ℕ → List ℕ → Type 0
Shortlex u v = (length u < length v) ⊎ ((length u ≡ length v) × Lower u v)

abbrev pub AtMost : List ℕ → List ℕ → Type 0
AtMost u v = Shortlex u v ⊎ (u ≡ v)

-- the same order on words stored last letter first (`before_is`)
abbrev pub Before : List ℕ → List ℕ → Type 0
Before [] [] = ⊥
Before [] (n ∷ v) = Unit {0}
Before (m ∷ u) [] = ⊥
Before (m ∷ u) (n ∷ v) = Before u v ⊎ ((u ≡ v) × (m < n))

-- of a root's place and a word stored last letter first: by root, then by word
abbrev pub Earlier : ℕ → List ℕ → ℕ → List ℕ → Type 0
Earlier i u j v = (i < j) ⊎ ((i ≡ j) × Before u v)

abbrev pub NotAfter : ℕ → List ℕ → ℕ → List ℕ → Type 0
NotAfter i u j v = Earlier i u j v ⊎ ((i ≡ j) × (u ≡ v))
