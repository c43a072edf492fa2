-- The first of a list with a property.
use Rattle.std.specs.Prelude.{◌≡◌, refl, ◌⊎◌, Bool, true, false, List, [], ◌∷◌, ◌++◌}
use Rattle.std.proofs.Common.{ap, subst, sym, ◌∙◌, inl, inr, true≢false}
use Rattle.std.proofs.Math.Option.{none, some, none-ne-some, some-ne-none, some-injective}
use mathlib.Core.List.Memᴰ
use Rattle.theory_exploration.specs.Mem.{Mem, here, there, Ascending}
use Rattle.theory_exploration.specs.Explore.{first_by}

module _ {A : Type 0} (p : A → Bool) where
  pub first_here : (x : A) (l : List A) → p x ≡ true → first_by p (x ∷ l) ≡ some x
  first_here x l t = rw (t, first_by)

  pub first_skip : (x : A) (l : List A) → p x ≡ false → first_by p (x ∷ l) ≡ first_by p l
  first_skip x l t = rw (t, first_by)

  -- either the head is the first, or the first is that of the tail
  abbrev Head : A → List A → Type 0
  Head x l = ((p x ≡ true) × (first_by p (x ∷ l) ≡ some x)) ⊎ ((p x ≡ false) × (first_by p (x ∷ l) ≡ first_by p l))

  head_is : (x : A) (l : List A) → Head x l
  head_is x l = by_test (p x) refl
    where
      by_test : (b : Bool) → p x ≡ b → Head x l
      by_test true t = inl (t, first_here x l t)
      by_test false t = inr (t, first_skip x l t)

  differ : (x y : A) → y ≡ x → p x ≡ false → p y ≡ true → ⊥
  differ x y e f t = true≢false (sym t ∙ ap p e ∙ f)

  pub first_has_it : (l : List A) (x : A) → first_by p l ≡ some x → (p x ≡ true) × Mem x l
  first_has_it [] x h = absurd (none-ne-some x h)
  first_has_it (y ∷ l) x h = by_head (head_is y l) (first_has_it l x)
    where
      by_head : Head y l → (first_by p l ≡ some x → (p x ≡ true) × Mem x l) → (p x ≡ true) × Mem x (y ∷ l)
      by_head (inl c) below = let q = some-injective y x (sym c.1 ∙ h) in (ap p (sym q) ∙ c.0, here (sym q))
      by_head (inr c) below = let r = below (sym c.1 ∙ h) in (r.0, there r.1)

  pub none_has : (l : List A) → first_by p l ≡ none → (x : A) → Mem x l → p x ≡ true → ⊥
  none_has [] h x m t = Memᴰ.not-nil m
  none_has (y ∷ l) h x m t = by_head (head_is y l) m (λ e k. none_has l e x k t)
    where
      by_head : Head y l → Mem x (y ∷ l) → (first_by p l ≡ none → Mem x l → ⊥) → ⊥
      by_head (inl c) m below = some-ne-none y (sym c.1 ∙ h)
      by_head (inr c) (here e) below = differ y x e c.0 t
      by_head (inr c) (there k) below = below (sym c.1 ∙ h) k

  -- in a list in order no other comes before it
  pub first_precedes : (R : A → A → Type 0) (l : List A) → Ascending R l → (x : A) → first_by p l ≡ some x
      → (y : A) → Mem y l → p y ≡ true → R x y ⊎ (x ≡ y)
  first_precedes R [] asc x h y m t = absurd (Memᴰ.not-nil m)
  first_precedes R (z ∷ l) asc x h y m t = by_head (head_is z l) m (λ e k. first_precedes R l asc.1 x e y k t)
    where
      by_head : Head z l → Mem y (z ∷ l) → (first_by p l ≡ some x → Mem y l → R x y ⊎ (x ≡ y)) → R x y ⊎ (x ≡ y)
      by_head (inl c) (here e) below = inr (sym (some-injective z x (sym c.1 ∙ h)) ∙ sym e)
      by_head (inl c) (there k) below = inl (subst (λ a. R a y) (some-injective z x (sym c.1 ∙ h)) (asc.0 y k))
      by_head (inr c) (here e) below = absurd (differ z y e c.0 t)
      by_head (inr c) (there k) below = below (sym c.1 ∙ h) k

  pub first_append : (a l : List A) → first_by p a ≡ none → first_by p (a ++ l) ≡ first_by p l
  first_append [] l h = refl
  first_append (x ∷ a) l h = by_test (p x) refl (first_append a l)
    where
      by_test : (b : Bool) → p x ≡ b → (first_by p a ≡ none → first_by p (a ++ l) ≡ first_by p l) → first_by p ((x ∷ a) ++ l) ≡ first_by p l
      by_test true t below = absurd (none_has (x ∷ a) h x (here refl) t)
      by_test false t below = rw (t, first_by) (below (rw (t, first_by) at h))
