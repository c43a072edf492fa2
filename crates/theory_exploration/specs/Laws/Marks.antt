-- Marks: there is room for one more as long as an entry is 0, and a number that is put at the end of a list is in it.
use Rattle.std.specs.Prelude.{◌≡◌, refl, Bool, true, false, not, List, [], ◌∷◌, ◌++◌, ℕ, zero, suc, ◌+◌, ◌≤◌, ◌<◌, eqb, length, get_or, set, take}
use Rattle.std.proofs.Common.{sym, ap, ◌∙◌, arith, add-one, get_or-set_same, get_or-set_other, take-suc-set, eqb-true, eq-eqb, ne_eqb}
use Rattle.std.proofs.lemmas.Bool.{eqb-false}
use Rattle.theory_exploration.specs.Explore.{seen}
use Rattle.theory_exploration.specs.Marks.{mem, count}

-- ROOM: where an entry is 0 not all are counted
pub count_most : (l : List ℕ) → count l ≤ length l
count_most [] = omega arith
count_most (x ∷ l) = by_test (eqb x 0) (count_most l)
  where
    by_test : (b : Bool) → count l ≤ length l → elim b [ true ↦ count l | false ↦ suc (count l) ] ≤ suc (length l)
    by_test true h = omega arith
    by_test false h = omega arith

pub count_room : (l : List ℕ) (c : ℕ) → c < length l → get_or l c 0 ≡ 0 → count l < length l
count_room [] c h e = absurd (omega arith)
count_room (x ∷ l) zero h e = rw (eq-eqb x 0 e, count) (omega (arith, count_most l))
count_room (x ∷ l) (suc c) h e = by_test (eqb x 0) (count_room l c (omega arith) e)
  where
    by_test : (b : Bool) → count l < length l → elim b [ true ↦ count l | false ↦ suc (count l) ] < suc (length l)
    by_test true h = omega arith
    by_test false h = omega arith

pub count_set : (l : List ℕ) (c v : ℕ) → c < length l → get_or l c 0 ≡ 0 → count (set l c (v + 1)) ≡ suc (count l)
count_set [] c v h e = absurd (omega arith)
count_set (x ∷ l) zero v h e = rw (eq-eqb x 0 e, ne_eqb (v + 1) 0 (λ z. omega arith), count)
count_set (x ∷ l) (suc c) v h e = by_test (eqb x 0) (count_set l c v (omega arith) e)
  where
    by_test : (b : Bool) → count (set l c (v + 1)) ≡ suc (count l)
        → elim b [ true ↦ count (set l c (v + 1)) | false ↦ suc (count (set l c (v + 1))) ] ≡ suc (elim b [ true ↦ count l | false ↦ suc (count l) ])
    by_test true h = h
    by_test false h = ap suc h

-- MEMBERS
pub mem_append : (x a : ℕ) (l : List ℕ) → mem x (l ++ (a ∷ [])) ≡ elim (eqb a x) [ true ↦ true | false ↦ mem x l ]
mem_append x a [] = refl
mem_append x a (b ∷ l) = by_test (eqb b x) (eqb a x) (mem_append x a l)
  where
    by_test : (d e : Bool) → mem x (l ++ (a ∷ [])) ≡ elim e [ true ↦ true | false ↦ mem x l ]
        → ◌≡◌ {A = Bool} (elim d [ true ↦ true | false ↦ mem x (l ++ (a ∷ [])) ])
        (elim e [ true ↦ true | false ↦ elim d [ true ↦ true | false ↦ mem x l ] ])
    by_test true true h = refl
    by_test true false h = refl
    by_test false e h = h

pub mem_at : (l : List ℕ) (n k : ℕ) → k < n → k < length l → mem (get_or l k 0) (take n l) ≡ true
mem_at [] n k h g = absurd (omega arith)
mem_at (x ∷ l) zero k h g = absurd (omega arith)
mem_at (x ∷ l) (suc n) zero h g = rw (eq-eqb x x refl, seen)
mem_at (x ∷ l) (suc n) (suc k) h g = by_test (eqb x (get_or l k 0)) (mem_at l n k (omega arith) (omega arith))
  where
    by_test : (b : Bool) → mem (get_or l k 0) (take n l) ≡ true → elim b [ true ↦ true | false ↦ mem (get_or l k 0) (take n l) ] ≡ true
    by_test true h = refl
    by_test false h = h

-- ONE MORE MARK: the number goes to the end of the list, and its entry is no more 0
module _ (seen list : List ℕ) (n c v : ℕ) (room : n < length list) (small : c < length seen) where
  pub one_more_taken : take (n + 1) (set list n c) ≡ take n list ++ (c ∷ [])
  one_more_taken = ap (λ i. take i (set list n c)) (add-one n) ∙ take-suc-set list n c room

  pub one_more_known : ((x : ℕ) → mem x (take n list) ≡ not (eqb (get_or seen x 0) 0))
      → (x : ℕ) → mem x (take (n + 1) (set list n c)) ≡ not (eqb (get_or (set seen c (v + 1)) x 0) 0)
  one_more_known known x = ap (mem x) one_more_taken ∙ mem_append x c (take n list) ∙ by_test (eqb c x) refl
    where
      by_test : (b : Bool) → eqb c x ≡ b
          → elim b [ true ↦ true | false ↦ mem x (take n list) ] ≡ not (eqb (get_or (set seen c (v + 1)) x 0) 0)
      by_test true t =
          let same_mark : get_or (set seen c (v + 1)) x 0 ≡ v + 1 =
          ap (λ y. get_or (set seen c (v + 1)) y 0) (sym (eqb-true c x t)) ∙ get_or-set_same seen c (v + 1) 0 small in
          sym (ap not (ne_eqb (get_or (set seen c (v + 1)) x 0) 0 (λ z. omega arith)))
      by_test false t =
          let other : (x ≡ c → ⊥) = λ z. eqb-false c x t (sym z) in
          known x ∙ ap (λ i. not (eqb i 0)) (sym (get_or-set_other seen c x (v + 1) 0 other))
