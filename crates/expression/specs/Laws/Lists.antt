-- What stands where in a list: its members by their places.
use Rattle.std.specs.Prelude.{◌≡◌, refl, List, [], ◌∷◌, map, ℕ, zero, suc, ◌<◌, length, get_or}
use Rattle.std.proofs.Common.{sym, ap, subst, arith}
use Rattle.std.proofs.Math.Option.{some, some-injective, none-ne-some}
use Rattle.std.proofs.Math.ListN.{get_elem?}
use Rattle.theory_exploration.specs.Mem.{Mem, here, there, Distinct, Ascending}

module _ {A : Type 0} where
  -- the member at a place
  pub member_at : (l : List A) (i : ℕ) → i < length l → (x : A) × Mem x l × (get_elem? l i ≡ some x)
  member_at [] i h = absurd (omega arith)
  member_at (x ∷ l) zero h = (x, here refl, refl)
  member_at (x ∷ l) (suc i) h = let r = member_at l i (omega arith) in (r.0, there r.1, r.2)

  -- and the place of a member
  pub place_of : {x : A} {l : List A} → Mem x l → (i : ℕ) × (i < length l) × (get_elem? l i ≡ some x)
  place_of (here e) = (0, omega arith, ap some (sym e))
  place_of (there m) = let r = place_of m in (suc r.0, omega (arith, r.1), r.2)

  pub member_is : (l : List A) (i : ℕ) {x : A} → get_elem? l i ≡ some x → Mem x l
  member_is [] i e = absurd (none-ne-some _ e)
  member_is (y ∷ l) zero {x} e = here (sym (some-injective y x e))
  member_is (y ∷ l) (suc i) e = there (member_is l i e)

  pub ascending_at : (R : A → A → Type 0) (l : List A) → Ascending R l → (i j : ℕ) {x y : A} → i < j → get_elem? l i ≡ some x → get_elem? l j ≡ some y
      → R x y
  ascending_at R [] a i j h e f = absurd (none-ne-some _ e)
  ascending_at R (z ∷ l) a i zero h e f = absurd (omega arith)
  ascending_at R (z ∷ l) a zero (suc j) {x} {y} h e f =
      subst (λ t. R t y) (some-injective z x e) (a.0 y (member_is l j f))
  ascending_at R (z ∷ l) a (suc i) (suc j) h e f = ascending_at R l a.1 i j (omega arith) e f

module _ {A B : Type 0} (f : A → B) where
  pub mapped_at : (l : List A) (i : ℕ) (d : B) {x : A} → get_elem? l i ≡ some x → get_or (map f l) i d ≡ f x
  mapped_at [] i d e = absurd (none-ne-some _ e)
  mapped_at (y ∷ l) zero d {x} e = ap f (some-injective y x e)
  mapped_at (y ∷ l) (suc i) d e = mapped_at l i d e

-- a number stands where it is looked up
pub held_at : (l : List ℕ) (i : ℕ) → i < length l → Mem (get_or l i 0) l
held_at [] i h = absurd (omega arith)
held_at (x ∷ l) zero h = here refl
held_at (x ∷ l) (suc i) h = there (held_at l i (omega arith))

-- a number that comes once has one place
pub one_place : (l : List ℕ) → Distinct l → (i j : ℕ) → i < length l → j < length l → get_or l i 0 ≡ get_or l j 0 → i ≡ j
one_place [] d i j h k e = absurd (omega arith)
one_place (x ∷ l) d zero zero h k e = refl
one_place (x ∷ l) d zero (suc j) h k e = absurd (d.0 (subst (λ y. Mem y l) (sym e) (held_at l j (omega arith))))
one_place (x ∷ l) d (suc i) zero h k e = absurd (d.0 (subst (λ y. Mem y l) e (held_at l i (omega arith))))
one_place (x ∷ l) d (suc i) (suc j) h k e = ap suc (one_place l d.1 i j (omega arith) (omega arith) e)
