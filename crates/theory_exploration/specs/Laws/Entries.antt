-- The entries of an exploration: their children are where the letters lead, and they stand in the order of words.
use Rattle.std.specs.Prelude.{◌≡◌, ◌⊎◌}
use Rattle.std.proofs.Math.Path.{refl, subst}
use Rattle.std.proofs.Common.{ap, subst₂, sym, inl, zero-add}
use Rattle.std.proofs.Math.Logic.{inr}
use Rattle.std.proofs.Math.Option.{Option, none, some, none-ne-some, some-injective}
use mathlib.Core.List.Memᴰ
use mathlib.Core.List.{List, [], ◌∷◌}
use Prim.Native.Nat.{ℕ, zero, suc, ◌+◌, ◌≤◌, ◌<◌}
use native.Mathlib.Omega.{arith}
use Rattle.std.proofs.Math.Decide.{dec_lt}
use Rattle.std.proofs.Math.Nat.{add-zero}
use Rattle.std.proofs.Math.ListN.{get_elem?}
use Rattle.theory_exploration.specs.Mem.{Mem, here, there, All, Ascending}
use Rattle.theory_exploration.specs.Order.{Before, Earlier, NotAfter}
use Rattle.theory_exploration.specs.Laws.Order.{before_longer, earlier_transitive}
use Rattle.theory_exploration.specs.Explore.{Entry, Precedes, extend, starts, children_from, children}
use Rattle.theory_exploration.specs.Laws.Expand.{Steady}

pub not_after : {Node : Type 0} (e f : Entry Node) → Precedes e f ⊎ (e ≡ f) → NotAfter e.root e.word f.root f.word
not_after e f (inl p) = inl p
not_after e f (inr q) = inr (ap (λ x. x.root) q, ap (λ x. x.word) q)

-- CHILDREN
-- a letter from lo on and below hi leads to the entry
pub record Child {Node : Type 0} (δ : Node → ℕ → Option Node) (lo hi : ℕ) (e c : Entry Node) : Type 0 where
  pub letter : ℕ
  pub low : lo ≤ letter
  pub high : letter < hi
  pub node : Node
  pub step : δ e.at letter ≡ some node
  pub is : c ≡ extend e letter node

module _ {Node : Type 0} (δ : Node → ℕ → Option Node) where
  pub children_from_cases : (P : List (Entry Node) → Type 0) (e : Entry Node) (left m : ℕ)
      → (δ e.at m ≡ none → P (children_from δ e left (suc m)))
      → ((y : Node) → δ e.at m ≡ some y → P (extend e m y ∷ children_from δ e left (suc m)))
      → P (children_from δ e (suc left) m)
  unfolding children_from
  children_from_cases P e left m skip add = by_step (δ e.at m) refl
    where
      by_step : (o : Option Node) → δ e.at m ≡ o → P (children_from δ e (suc left) m)
      by_step none t = rw (t, children_from) (skip t)
      by_step (some y) t = rw (t, children_from) (add y t)

  children_from_is : (e : Entry Node) (left m : ℕ) → All (Child δ m (m + left) e) (children_from δ e left m)
  unfolding children_from
  children_from_is e zero m = λ c k. absurd (Memᴰ.not-nil k)
  children_from_is e (suc left) m =
      children_from_cases (All (Child δ m (m + suc left) e)) e left m
      (λ t c k. wider c (children_from_is e left (suc m) c k))
      (λ y t c k. either y t c k (children_from_is e left (suc m) c))
    where
      wider : (c : Entry Node) → Child δ (suc m) (suc m + left) e c → Child δ m (m + suc left) e c
      wider c h =
          record {
            letter = h.letter;
            low = omega (arith, h.low);
            high = omega (arith, h.high);
            node = h.node;
            step = h.step;
            is = h.is;
          }

      either : (y : Node) → δ e.at m ≡ some y → (c : Entry Node) → Mem c (extend e m y ∷ children_from δ e left (suc m))
          → (Mem c (children_from δ e left (suc m)) → Child δ (suc m) (suc m + left) e c) → Child δ m (m + suc left) e c
      either y t c (here h) below = record { letter = m; low = omega arith; high = omega arith; node = y; step = t; is = h }
      either y t c (there k) below = wider c (below k)

  is_children_from : (e : Entry Node) (left m k : ℕ) (y : Node) → m ≤ k → k < m + left → δ e.at k ≡ some y
      → Mem (extend e k y) (children_from δ e left m)
  is_children_from e zero m k y low high h = absurd (omega arith)
  is_children_from e (suc left) m k y low high h = by_letter (dec_lt m k) (λ l. is_children_from e left (suc m) k y l (omega arith) h)
    where
      missing : k ≡ m → δ e.at m ≡ none → ⊥
      missing q t = let z : ◌≡◌ {A = ℕ} 0 1 = cc in omega arith

      by_letter : Dec (m < k) → (m < k → Mem (extend e k y) (children_from δ e left (suc m)))
          → Mem (extend e k y) (children_from δ e (suc left) m)
      by_letter (yes l) below = children_from_cases (Mem (extend e k y)) e left m (λ t. below l) (λ z t. there (below l))
      by_letter (no g) below =
          let q : k ≡ m = omega arith in
          children_from_cases (Mem (extend e k y)) e left m (λ t. absurd (missing q t)) (λ z t. here (cc))

  children_from_ascend : (e : Entry Node) (left m : ℕ) → Ascending Precedes (children_from δ e left m)
  unfolding children_from
  children_from_ascend e zero m = tt
  children_from_ascend e (suc left) m =
      children_from_cases (Ascending Precedes) e left m
      (λ t. children_from_ascend e left (suc m))
      (λ y t. (above y, children_from_ascend e left (suc m)))
    where
      above : (y : Node) → All (Precedes (extend e m y)) (children_from δ e left (suc m))
      above y f k =
          let h = children_from_is e left (suc m) f k in
          subst (Precedes (extend e m y)) (sym h.is) (inr (refl, inr (refl, h.low)))

module _ {Node : Type 0} (M : ℕ) (δ : Node → ℕ → Option Node) where
  pub child_is : (e c : Entry Node) → Mem c (children M δ e) → Child δ 0 M e c
  child_is e c k = rw zero-add at (children_from_is δ e M 0 c k)

  pub is_child : (e : Entry Node) (m : ℕ) (y : Node) → m < M → δ e.at m ≡ some y → Mem (extend e m y) (children M δ e)
  is_child e m y high h = is_children_from δ e M 0 m y (omega arith) (omega arith) h

  extend_follow : (e f : Entry Node) (m n : ℕ) (y z : Node) → Precedes e f → Precedes (extend e m y) (extend f n z)
  extend_follow e f m n y z (inl l) = inl l
  extend_follow e f m n y z (inr p) = inr (p.0, inl p.1)

  pub steady : Steady (children M δ) Precedes
  steady =
      record {
        transitive = λ e f g. earlier_transitive e.root e.word f.root f.word g.root g.word;
        child_after = λ e c k. let h = child_is e c k in subst (Precedes e) (sym h.is) (inr (refl, before_longer h.letter e.word));
        children_follow =
            λ e f c d p k l.
            let h = child_is e c k in
            let g = child_is f d l in
            subst₂ Precedes (sym h.is) (sym g.is) (extend_follow e f h.letter g.letter h.node g.node p);
        children_ascend = λ e. children_from_ascend δ e M 0;
      }

-- STARTS
-- the root at a place
pub record Start {Node : Type 0} (roots : List Node) (i : ℕ) (s : Entry Node) : Type 0 where
  pub place : ℕ
  pub node : Node
  pub root : get_elem? roots place ≡ some node
  pub is : s ≡ record { at = node; root = i + place; word = [] }

module _ {Node : Type 0} where
  pub starts_is : (i : ℕ) (roots : List Node) (s : Entry Node) → Mem s (starts i roots) → Start roots i s
  unfolding starts
  starts_is i [] s m = absurd (Memᴰ.not-nil m)
  starts_is i (r ∷ roots) s (here e) = record { place = 0; node = r; root = refl; is = rw add-zero e }
  starts_is i (r ∷ roots) s (there m) =
      let h = starts_is (suc i) roots s m in
      let shift : suc i + h.place ≡ i + suc h.place = omega arith in
      record { place = suc h.place; node = h.node; root = h.root; is = rw (← shift) h.is }

  pub is_starts : (i : ℕ) (roots : List Node) (k : ℕ) (r : Node) → get_elem? roots k ≡ some r
      → Mem (record { at = r; root = i + k; word = [] }) (starts i roots)
  unfolding starts
  is_starts i [] k r h = absurd (none-ne-some r h)
  is_starts i (q ∷ roots) zero r h = rw (add-zero, ← some-injective q r h) (here refl)
  is_starts i (q ∷ roots) (suc k) r h =
      let shift : suc i + k ≡ i + suc k = omega arith in
      rw (← shift) (there (is_starts (suc i) roots k r h))

  pub starts_ascend : (i : ℕ) (roots : List Node) → Ascending Precedes (starts i roots)
  unfolding starts
  starts_ascend i [] = tt
  starts_ascend i (r ∷ roots) = (later, starts_ascend (suc i) roots)
    where
      later : All (Precedes (record { at = r; root = i; word = [] })) (starts (suc i) roots)
      later f m =
          let h = starts_is (suc i) roots f m in
          subst (Precedes (record { at = r; root = i; word = [] })) (sym h.is) (inl (omega arith))

  -- nothing of a root comes before it, so what comes before it is of an earlier root
  pub start_after : (i : ℕ) (roots : List Node) (s : Entry Node) → Mem s (starts i roots) → (e c : Entry Node) → c.root ≡ e.root
      → Precedes e s → Precedes c s
  start_after i roots s m e c q p =
      let h = starts_is i roots s m in
      subst (Precedes c) (sym h.is) (earlier h.place (subst (Precedes e) h.is p))
    where
      nothing : (u : List ℕ) → Before u [] → ⊥
      nothing [] b = b
      nothing (n ∷ u) b = b

      earlier : (k : ℕ) → Earlier e.root e.word (i + k) [] → Earlier c.root c.word (i + k) []
      earlier k (inl l) = inl (omega arith)
      earlier k (inr b) = absurd (nothing e.word b.1)
