-- Lists put together: members, order, duplicates.
use Rattle.std.specs.Prelude.{◌≡◌, refl, List, [], ◌∷◌, ◌++◌, map, length}
use Rattle.std.proofs.Common.{ap, subst, sym, ◌∙◌, ⊎_elim, append_assoc, arith}
use mathlib.Core.List.Memᴰ
use Rattle.std.proofs.Math.Seq.{append_snoc}
use Rattle.theory_exploration.specs.Mem.{Mem, here, there, All, Distinct, Ascending}

module _ {A : Type 0} where
  pub empty : (l : List A) → length l ≡ 0 → l ≡ []
  empty [] e = refl
  empty (x ∷ l) e = absurd (omega arith)

  -- an element goes from the second list to the end of the first
  pub append_move : (a : List A) (x : A) (b c : List A) → (a ++ (x ∷ [])) ++ (b ++ c) ≡ (a ++ (x ∷ b)) ++ c
  append_move a x b c = append_snoc a x (b ++ c) ∙ sym (append_assoc a (x ∷ b) c)

  pub all_none : (P : A → Type 0) → All P []
  all_none P x m = absurd (Memᴰ.not-nil m)

  pub all_one : (P : A → Type 0) (x : A) → P x → All P (x ∷ [])
  all_one P x p y m = subst P (sym (Memᴰ.eq_of_singleton m)) p

  pub all_join : (P : A → Type 0) (a b : List A) → All P a → All P b → All P (a ++ b)
  all_join P a b p q x m = ⊎_elim (p x) (q x) (Memᴰ.append_cases a m)

  module _ (R : A → A → Type 0) where
    pub ascending_one : (x : A) → Ascending R (x ∷ [])
    ascending_one x = (all_none (R x), tt)

    pub ascending_join : (a b : List A) → Ascending R a → Ascending R b → ((x y : A) → Mem x a → Mem y b → R x y) → Ascending R (a ++ b)
    ascending_join [] b p q across = q
    ascending_join (x ∷ a) b p q across =
        (all_join (R x) a b p.0 (λ y. across x y (here refl)), ascending_join a b p.1 q (λ z y m. across z y (there m)))

    pub ascending_across : (a b : List A) → Ascending R (a ++ b) → (x y : A) → Mem x a → Mem y b → R x y
    ascending_across [] b p x y m n = absurd (Memᴰ.not-nil m)
    ascending_across (z ∷ a) b p x y (here e) n = subst (λ t. R t y) (sym e) (p.0 y (Memᴰ.append_right a n))
    ascending_across (z ∷ a) b p x y (there m) n = ascending_across a b p.1 x y m n

    pub ascending_right : (a b : List A) → Ascending R (a ++ b) → Ascending R b
    ascending_right [] b p = p
    ascending_right (x ∷ a) b p = ascending_right a b p.1

module _ {A B : Type 0} (f : A → B) where
  pub mem_map : {x : A} {l : List A} → Mem x l → Mem (f x) (map f l)
  mem_map (here e) = here (ap f e)
  mem_map (there m) = there (mem_map m)

  pub map_mem : (y : B) (l : List A) → Mem y (map f l) → (x : A) × Mem x l × (f x ≡ y)
  map_mem y [] x' = elim x' [ ]
  map_mem y (x ∷ l) (here e) = (x, here refl, sym e)
  map_mem y (x ∷ l) (there m) = let r = map_mem y l m in (r.0, there r.1, r.2)

  pub distinct_map : (l : List A) → Ascending (λ x y. f x ≡ f y → ⊥) l → Distinct (map f l)
  distinct_map [] a = tt
  distinct_map (x ∷ l) a = (λ m. let r = map_mem (f x) l m in a.0 r.0 r.1 (sym r.2), distinct_map l a.1)
