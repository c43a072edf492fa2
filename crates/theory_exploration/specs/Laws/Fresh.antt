-- What is fresh: of some entries those whose node is not yet in the list. Only `seen_is` looks at the test.
use Rattle.std.specs.Prelude.{◌≡◌, refl, ◌⊎◌, Bool, true, false}
use Rattle.std.proofs.Common.{ap, sym, ◌∙◌, inl, inr, ⊎_elim, true≢false}
use mathlib.Core.List.{List, [], ◌∷◌, ◌++◌, append-nil}
use mathlib.Core.List.Memᴰ
use Rattle.std.proofs.Math.Seq.{append_snoc}
use Rattle.theory_exploration.specs.Mem.{Mem, here, there, All, Ascending}
use Rattle.theory_exploration.specs.Laws.Mem.{all_one, all_join, ascending_one, ascending_join}
use Rattle.theory_exploration.specs.Explore.{IsEquality, seen, fresh}

module _ {E Node : Type 0} (node : E → Node) where
  -- no node comes again
  abbrev pub Apart : List E → Type 0
  Apart Q = Ascending (λ e f. node e ≡ node f → ⊥) Q

  -- an entry for the node of c, not after c
  abbrev pub Has : (E → E → Type 0) → List E → E → Type 0
  Has R Q c = (f : E) × Mem f Q × (node f ≡ node c) × (R f c ⊎ (f ≡ c))

  pub has_more : (R : E → E → Type 0) (c : E) (Q F : List E) → Has R Q c → Has R (Q ++ F) c
  has_more R c Q F t = (t.0, Memᴰ.append_left F t.1, t.2, t.3)

module _ {E Node : Type 0} (node : E → Node) (same : Node → Node → Bool) where
  pub fresh_old : (Q : List E) (c : E) (cs : List E) → seen node same Q (node c) ≡ true → fresh node same Q (c ∷ cs) ≡ fresh node same Q cs
  unfolding fresh
  fresh_old Q c cs t = rw (t, fresh)

  pub fresh_new : (Q : List E) (c : E) (cs : List E) → seen node same Q (node c) ≡ false
      → fresh node same Q (c ∷ cs) ≡ c ∷ fresh node same (Q ++ (c ∷ [])) cs
  unfolding fresh
  fresh_new Q c cs t = rw (t, fresh)

  -- the test, and what it tells: whether an entry has the node
  abbrev pub Seen : List E → Node → Type 0
  Seen Q x =
      ((f : E) × Mem f Q × (node f ≡ x) × (seen node same Q x ≡ true))
      ⊎ (((f : E) → Mem f Q → node f ≡ x → ⊥) × (seen node same Q x ≡ false))

module _ {E Node : Type 0} (node : E → Node) (same : Node → Node → Bool) (equal : IsEquality same) where
  pub seen_is : (Q : List E) (x : Node) → Seen node same Q x
  seen_is [] x = inr (λ f m e. Memᴰ.not-nil m, refl)
  seen_is (d ∷ Q) x = by_test (same (node d) x) refl (seen_is Q x)
    where
      apart : same (node d) x ≡ false → All (λ f. node f ≡ x → ⊥) Q → All (λ f. node f ≡ x → ⊥) (d ∷ Q)
      apart t none f (here h) e = true≢false (sym ((equal (node d) x).1 (ap node (sym h) ∙ e)) ∙ t)
      apart t none f (there m) e = none f m e

      by_test : (b : Bool) → same (node d) x ≡ b → Seen node same Q x → Seen node same (d ∷ Q) x
      by_test true t s = inl (d, here refl, (equal (node d) x).0 t, rw (t, seen))
      by_test false t (inl s) = inl (s.0, there s.1, s.2, rw (t, seen) s.3)
      by_test false t (inr s) = inr (apart t s.0, rw (t, seen) s.1)

  pub fresh_cases : (P : List E → Type 0) (Q : List E) (c : E) (cs : List E)
      → ((f : E) → Mem f Q → node f ≡ node c → P (fresh node same Q cs))
      → (All (λ f. node f ≡ node c → ⊥) Q → P (c ∷ fresh node same (Q ++ (c ∷ [])) cs))
      → P (fresh node same Q (c ∷ cs))
  fresh_cases P Q c cs old new =
      ⊎_elim
      (λ s. rw (fresh_old node same Q c cs s.3) (old s.0 s.1 s.2))
      (λ s. rw (fresh_new node same Q c cs s.1) (new s.0))
      (seen_is Q (node c))

  pub fresh_only : (Q cs : List E) → All (λ x. Mem x cs) (fresh node same Q cs)
  unfolding fresh
  fresh_only Q [] = λ x m. m
  fresh_only Q (c ∷ cs) =
      fresh_cases (All (λ x. Mem x (c ∷ cs))) Q c cs
      (λ f k e x m. there (fresh_only Q cs x m))
      (λ new x m. keep x m (fresh_only (Q ++ (c ∷ [])) cs x))
    where
      keep : {F : List E} (x : E) → Mem x (c ∷ F) → (Mem x F → Mem x cs) → Mem x (c ∷ cs)
      keep x (here e) below = here e
      keep x (there m) below = there (below m)

  pub fresh_all : (P : E → Type 0) (Q cs : List E) → All P cs → All P Q → All P (Q ++ fresh node same Q cs)
  fresh_all P Q cs p q = all_join P Q (fresh node same Q cs) q (λ x m. p x (fresh_only Q cs x m))

  pub fresh_apart : (Q cs : List E) → Apart node Q → Apart node (Q ++ fresh node same Q cs)
  unfolding fresh
  fresh_apart Q [] a = rw append-nil a
  fresh_apart Q (c ∷ cs) a =
      fresh_cases (λ F. Apart node (Q ++ F)) Q c cs
      (λ f k e. fresh_apart Q cs a)
      (λ new. rw (← append_snoc) (fresh_apart (Q ++ (c ∷ [])) cs (one_more_lem new)))
    where
      R : E → E → Type 0
      R e f = node e ≡ node f → ⊥

      one_more_lem : All (λ f. node f ≡ node c → ⊥) Q → Apart node (Q ++ (c ∷ []))
      one_more_lem new = ascending_join R Q (c ∷ []) a (ascending_one R c) (λ x y m n. all_one (R x) c (new x m) y n)

  module _ (R : E → E → Type 0) where
    pub fresh_ascends : (Q cs : List E) → Ascending R cs → Ascending R (fresh node same Q cs)
    unfolding fresh
    fresh_ascends Q [] a = tt
    fresh_ascends Q (c ∷ cs) a =
        fresh_cases (Ascending R) Q c cs
        (λ f k e. fresh_ascends Q cs a.1)
        (λ new. (λ y m. a.0 y (fresh_only (Q ++ (c ∷ [])) cs y m), fresh_ascends (Q ++ (c ∷ [])) cs a.1))

    -- the node of each of the entries is there, by an entry not after it
    pub fresh_has : (Q cs : List E) → Ascending R cs → (c : E) → Mem c cs → All (λ f. R f c) Q → Has node R (Q ++ fresh node same Q cs) c
    fresh_has Q [] a c m early = absurd (Memᴰ.not-nil m)
    fresh_has Q (d ∷ cs) a c (here h) early =
        fresh_cases (λ F. Has node R (Q ++ F) c) Q d cs
        (λ f k e. (f, Memᴰ.append_left (fresh node same Q cs) k, e ∙ ap node (sym h), inl (early f k)))
        (λ new. (d, Memᴰ.append_right Q (here refl), ap node (sym h), inr (sym h)))
    fresh_has Q (d ∷ cs) a c (there m) early =
        fresh_cases (λ F. Has node R (Q ++ F) c) Q d cs
        (λ f k e. fresh_has Q cs a.1 c m early)
        (λ new. rw (← append_snoc) (fresh_has (Q ++ (d ∷ [])) cs a.1 c m one_more_lem))
      where
        one_more_lem : All (λ f. R f c) (Q ++ (d ∷ []))
        one_more_lem = all_join (λ f. R f c) Q (d ∷ []) early (all_one (λ f. R f c) d (a.0 c m))
