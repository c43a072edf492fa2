-- How many pairs there are: the lists of all pairs over so many states.
use Rattle.std.specs.Prelude.{◌≡◌, refl, ℕ, ◌+◌, ◌*◌, ◌<◌, length}
use Rattle.std.proofs.Math.Path.{sym}
use Rattle.std.proofs.Common.{ap, ap₂, ◌∙◌, arith, zero-mul}
use Rattle.std.proofs.Math.Option.{Option, none, some}
use mathlib.Core.List.Memᴰ
use mathlib.Core.List.{List, [], ◌∷◌, ◌++◌, map}
use Rattle.std.proofs.Math.Nat.{suc-mul}
use Rattle.std.proofs.Math.ListN.{length-append, length-map}
use Rattle.theory_exploration.specs.Mem.{Mem, here, there}
use Rattle.theory_exploration.specs.Laws.Size.{below, below_length, below_each}
use Rattle.theory_model.specs.Verdict.{most_pairs, Pair, before, after}

module _ {A B C : Type 0} (f : A → B → C) where
  -- all that f makes of the two lists
  grid : List A → List B → List C
  grid [] ys = []
  grid (x ∷ xs) ys = map (f x) ys ++ grid xs ys

  grid_length : (xs : List A) (ys : List B) → length (grid xs ys) ≡ length xs * length ys
  unfolding grid
  grid_length [] ys = sym (zero-mul (length ys))
  grid_length (x ∷ xs) ys = omega (arith, length-append (map (f x) ys) (grid xs ys), length-map ys (f x), grid_length xs ys, suc-mul (length xs) (length ys))

  grid_each : {x : A} {y : B} (xs : List A) (ys : List B) → Mem x xs → Mem y ys → Mem (f x y) (grid xs ys)
  unfolding grid
  grid_each {x = x} {y = y} [] ys x3 m = elim x3 [ ]
  grid_each {x} {y} (x' ∷ xs) ys (here e) m = Memᴰ.append_left (grid xs ys) (Memᴰ.cast (ap (λ a. f a y) e) (Memᴰ.map (f x') m))
  grid_each (x' ∷ xs) ys (there n) m = Memᴰ.append_right (map (f x') ys) (grid_each xs ys n m)

-- where a target may stand: nowhere, or at a state
targets : ℕ → List (Option ℕ)
targets n = none ∷ map some (below n)

abbrev pub Standing : ℕ → Option ℕ → Type 0
Standing n t = (s : ℕ) → t ≡ some s → s < n

targets_each : (n : ℕ) (t : Option ℕ) → Standing n t → Mem t (targets n)
unfolding targets
targets_each n none h = here refl
targets_each n (some t) h = there (Memᴰ.map some (below_each n t (h t refl)))

targets_length : (n : ℕ) → length (targets n) ≡ n + 1
unfolding targets
targets_length n = omega (arith, length-map (below n) some, below_length n)

-- all pairs of a step, and all of a bad entry
pub step_space : ℕ → List Pair
step_space n = grid before (below n) (targets n) ++ grid after (below n) (targets n)

pub step_space_length : (n : ℕ) → length (step_space n) ≡ most_pairs n
unfolding step_space
step_space_length n =
    length-append (grid before (below n) (targets n)) (grid after (below n) (targets n))
    ∙ ap₂ (λ a b. a + b) (grid_length before (below n) (targets n)) (grid_length after (below n) (targets n))
    ∙ ap₂ (λ a b. a * b + a * b) (below_length n) (targets_length n)
    ∙ omega arith

pub before_in_space : (n s : ℕ) (t : Option ℕ) → s < n → Standing n t → Mem (before s t) (step_space n)
unfolding step_space
before_in_space n s t h k = Memᴰ.append_left _ (grid_each before (below n) (targets n) (below_each n s h) (targets_each n t k))

pub after_in_space : (n s : ℕ) (t : Option ℕ) → s < n → Standing n t → Mem (after s t) (step_space n)
unfolding step_space
after_in_space n s t h k = Memᴰ.append_right (grid before (below n) (targets n)) (grid_each after (below n) (targets n) (below_each n s h) (targets_each n t k))

pub entry_space : ℕ → List Pair
entry_space n = grid (λ s t. after s (some t)) (below n) (below n)

pub entry_space_length : (n : ℕ) → length (entry_space n) ≡ n * n
unfolding entry_space
entry_space_length n = grid_length (λ s t. after s (some t)) (below n) (below n) ∙ ap₂ (λ a b. a * b) (below_length n) (below_length n)

pub in_entry_space : (n s t : ℕ) → s < n → t < n → Mem (after s (some t)) (entry_space n)
unfolding entry_space
in_entry_space n s t h k = grid_each (λ s t. after s (some t)) (below n) (below n) (below_each n s h) (below_each n t k)
