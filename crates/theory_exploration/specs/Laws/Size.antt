-- A property has at most one size, by pigeonhole: an element is taken out where it stands, so that no equality need be decided.
use Rattle.std.specs.Prelude.{◌≡◌, ◌↔◌, ◌⊎◌, List, [], ◌∷◌, length}
use Rattle.std.proofs.Math.Path.{refl, ap, sym}
use Rattle.std.proofs.Common.{subst, ◌∙◌, ⊎_elim, arith, eq-or-lt_of_le}
use Rattle.std.proofs.Math.Logic.{inl, inr, ⊎_map}
use mathlib.Core.List.Memᴰ
use Prim.Native.Nat.{ℕ, zero, suc, ◌≤◌, ◌<◌, zero-le}
use Rattle.theory_exploration.specs.Mem.{Mem, here, there, Distinct}
use Rattle.theory_exploration.specs.Size.{Size}

module _ {A : Type 0} where
  -- the list without the member that stands there
  without : {x : A} {l : List A} → Mem x l → List A
  without (here {xs = l} e) = l
  without (there {x = y} m) = y ∷ without m

  without_length : {x : A} {l : List A} (m : Mem x l) → length l ≡ suc (length (without m))
  unfolding without
  without_length (here e) = refl
  without_length (there m) = ap suc (without_length m)

  -- every other element is left
  is_left : {x y : A} {l : List A} (m : Mem x l) → Mem y l → (y ≡ x) ⊎ Mem y (without m)
  unfolding without
  is_left (here e) (here e') = inl (e' ∙ sym e)
  is_left (here e) (there n) = inr n
  is_left (there m) (here e') = inr (here e')
  is_left (there m) (there n) = ⊎_map (λ e. e) there (is_left m n)

  pub at_most : (l k : List A) → Distinct l → ((x : A) → Mem x l → Mem x k) → length l ≤ length k
  at_most [] k d all = zero-le
  at_most (x ∷ l) k d all =
      let m : Mem x k = all x (here refl) in
      omega (arith, without_length m, at_most l (without m) d.1 (others m))
    where
      others : (m : Mem x k) (y : A) → Mem y l → Mem y (without m)
      others m y n = ⊎_elim (λ e. absurd (d.0 (Memᴰ.cast (sym e) n))) (λ n'. n') (is_left m (all y (there n)))

  pub size_at_most : {P : A → Type 0} {k : ℕ} → Size P k → (l : List A) → ((x : A) → P x → Mem x l) → k ≤ length l
  size_at_most s l all = subst (λ n. n ≤ length l) s.count (at_most s.members l s.distinct (λ x m. all x (s.only x m)))

  pub size_unique : {P : A → Type 0} {j k : ℕ} → Size P j → Size P k → j ≡ k
  size_unique s t =
      omega (arith, s.count, t.count, size_at_most s t.members t.each, size_at_most t s.members s.each)

  pub size_same : {P Q : A → Type 0} {k : ℕ} → ((x : A) → P x ↔ Q x) → Size P k → Size Q k
  size_same e s =
      record {
        members = s.members;
        distinct = s.distinct;
        only = λ x m. (e x).0 (s.only x m);
        each = λ x q. s.each x ((e x).1 q);
        count = s.count;
      }

-- the numbers below n
unfoldable pub below : ℕ → List ℕ
below zero = []
below (suc n) = n ∷ below n

pub below_length : (n : ℕ) → length (below n) ≡ n
unfolding below
below_length zero = refl
below_length (suc n) = ap suc (below_length n)

pub below_each : (n m : ℕ) → m < n → Mem m (below n)
unfolding below
below_each zero m h = absurd (omega arith)
below_each (suc n) m h = ⊎_elim (λ e. here e) (λ l. there (below_each n m l)) (eq-or-lt_of_le {n = m} {m = n} (omega arith))
