-- What stands at a place of a list.
use Rattle.std.specs.Prelude.{◌≡◌, refl, ◌⊎◌, List, [], ◌∷◌, ◌++◌, map, ℕ, zero, suc, ◌≤◌, ◌<◌, length}
use Rattle.std.proofs.Common.{ap, inl, inr, arith}
use Rattle.std.proofs.Math.Logic.{⊎_map}
use Rattle.std.proofs.Math.Option.{none, some, none-ne-some, some-injective}
use Rattle.std.proofs.Math.ListN.{get_elem?}

module _ {A : Type 0} where
  pub place_below : (l : List A) (k : ℕ) (x : A) → get_elem? l k ≡ some x → k < length l
  place_below [] k x h = absurd (none-ne-some x h)
  place_below (y ∷ l) zero x h = omega arith
  place_below (y ∷ l) (suc k) x h = omega (arith, place_below l k x h)

  pub place_left : (a b : List A) (k : ℕ) (x : A) → get_elem? a k ≡ some x → get_elem? (a ++ b) k ≡ some x
  place_left [] b k x h = absurd (none-ne-some x h)
  place_left (y ∷ a) b zero x h = h
  place_left (y ∷ a) b (suc k) x h = place_left a b k x h

  pub place_seam : (a b : List A) (x : A) → get_elem? (a ++ (x ∷ b)) (length a) ≡ some x
  place_seam [] b x = refl
  place_seam (y ∷ a) b x = place_seam a b x

  pub place_end : (l : List A) (k : ℕ) → length l ≤ k → get_elem? l k ≡ none
  place_end [] k h = refl
  place_end (x ∷ l) zero h = absurd (omega arith)
  place_end (x ∷ l) (suc k) h = place_end l k (omega arith)

  pub place_last : (a : List A) (c : A) (k : ℕ) (x : A) → get_elem? (a ++ (c ∷ [])) k ≡ some x
      → (get_elem? a k ≡ some x) ⊎ ((k ≡ length a) × (c ≡ x))
  place_last [] c zero x h = inr (refl, some-injective c x h)
  place_last [] c (suc k) x h = absurd (none-ne-some x h)
  place_last (y ∷ a) c zero x h = inl h
  place_last (y ∷ a) c (suc k) x h = ⊎_map (λ e. e) (λ q. (ap suc q.0, q.1)) (place_last a c k x h)

-- lists that agree in a part of each element have counterparts at each place
module _ {A B C : Type 0} (f : A → C) (g : B → C) where
  pub counterpart : (a : List A) (b : List B) → map f a ≡ map g b → (k : ℕ) (y : B) → get_elem? b k ≡ some y
      → (x : A) × (get_elem? a k ≡ some x) × (f x ≡ g y)
  counterpart a [] e k y h = absurd (none-ne-some y h)
  counterpart [] (z ∷ b) e k y h = absurd (let q : ◌≡◌ {A = ℕ} 0 1 = cc in omega arith)
  counterpart (x ∷ a) (z ∷ b) e zero y h = (x, refl, cc)
  counterpart (x ∷ a) (z ∷ b) e (suc k) y h = counterpart a b (cc) k y h
