-- The order of words is strict and total, and on words stored last letter first it is `Before`.
use Rattle.std.specs.Prelude.{◌≡◌, refl, ◌↔◌, ◌⊎◌, ℕ, ◌<◌, length}
use Rattle.std.proofs.Common.{ap, ap₂, subst, subst₂, sym, ◌∙◌, inl, inr, arith, length-append}
use Rattle.std.proofs.Math.Logic.{⊎_map}
use mathlib.Core.List.{List, [], ◌∷◌, ◌++◌, reverse, reverse-cons, reverse-reverse}
use Rattle.std.proofs.Math.Decide.{dec_lt}
use Rattle.std.proofs.lemmas.List.{length-reverse}
use Rattle.theory_exploration.specs.Order.{Lower, Shortlex, AtMost, Before, Earlier, NotAfter}

three : (m n : ℕ) → (m < n) ⊎ (m ≡ n) ⊎ (n < m)
three m n = decided (dec_lt m n) (dec_lt n m)
  where
    decided : Dec (m < n) → Dec (n < m) → (m < n) ⊎ (m ≡ n) ⊎ (n < m)
    decided (yes l) d = inl l
    decided (no l) (yes g) = inr (inr g)
    decided (no l) (no g) = inr (inl (omega arith))

-- WORDS STORED LAST LETTER FIRST
pub before_irreflexive : (u : List ℕ) → Before u u → ⊥
before_irreflexive [] b = b
before_irreflexive (m ∷ u) (inl b) = before_irreflexive u b
before_irreflexive (m ∷ u) (inr p) = omega arith

pub before_transitive : (u v w : List ℕ) → Before u v → Before v w → Before u w
before_transitive [] [] w a b = absurd a
before_transitive [] (n ∷ v) [] a b = absurd b
before_transitive [] (n ∷ v) (k ∷ w) a b = tt
before_transitive (m ∷ u) [] w a b = absurd a
before_transitive (m ∷ u) (n ∷ v) [] a b = absurd b
before_transitive (m ∷ u) (n ∷ v) (k ∷ w) (inl a) (inl b) = inl (before_transitive u v w a b)
before_transitive (m ∷ u) (n ∷ v) (k ∷ w) (inl a) (inr q) = inl (subst (Before u) q.0 a)
before_transitive (m ∷ u) (n ∷ v) (k ∷ w) (inr p) (inl b) = inl (subst (λ x. Before x w) (sym p.0) b)
before_transitive (m ∷ u) (n ∷ v) (k ∷ w) (inr p) (inr q) = inr (p.0 ∙ q.0, omega arith)

pub before_total : (u v : List ℕ) → Before u v ⊎ (u ≡ v) ⊎ Before v u
before_total [] [] = inr (inl refl)
before_total [] (n ∷ v) = inl tt
before_total (m ∷ u) [] = inr (inr tt)
before_total (m ∷ u) (n ∷ v) = by_tail (before_total u v)
  where
    by_letter : (u ≡ v) → (m < n) ⊎ (m ≡ n) ⊎ (n < m) → Before (m ∷ u) (n ∷ v) ⊎ ((m ∷ u) ≡ (n ∷ v)) ⊎ Before (n ∷ v) (m ∷ u)
    by_letter e (inl l) = inl (inr (e, l))
    by_letter e (inr (inl q)) = inr (inl (ap₂ ◌∷◌ q e))
    by_letter e (inr (inr g)) = inr (inr (inr (sym e, g)))

    by_tail : Before u v ⊎ (u ≡ v) ⊎ Before v u → Before (m ∷ u) (n ∷ v) ⊎ ((m ∷ u) ≡ (n ∷ v)) ⊎ Before (n ∷ v) (m ∷ u)
    by_tail (inl b) = inl (inl b)
    by_tail (inr (inl e)) = by_letter e (three m n)
    by_tail (inr (inr b)) = inr (inr (inl b))

pub before_longer : (m : ℕ) (u : List ℕ) → Before u (m ∷ u)
before_longer m [] = tt
before_longer m (n ∷ u) = inl (before_longer n u)

-- IN READING ORDER
reverse_injective : (u v : List ℕ) → reverse u ≡ reverse v → u ≡ v
reverse_injective u v e = sym (reverse-reverse u) ∙ ap reverse e ∙ reverse-reverse v

lower_right_nil : (u : List ℕ) → Lower u [] → ⊥
lower_right_nil [] l = l
lower_right_nil (m ∷ u) l = l

-- one more letter at the end decides last
lower_snoc : (a b : List ℕ) (m n : ℕ) → length a ≡ length b → Lower a b ⊎ ((a ≡ b) × (m < n)) → Lower (a ++ (m ∷ [])) (b ++ (n ∷ []))
lower_snoc [] [] m n e (inl l) = absurd l
lower_snoc [] [] m n e (inr q) = inl q.1
lower_snoc [] (j ∷ b) m n e l = absurd (omega arith)
lower_snoc (k ∷ a) [] m n e l = absurd (omega arith)
lower_snoc (k ∷ a) (j ∷ b) m n e (inl (inl l)) = inl l
lower_snoc (k ∷ a) (j ∷ b) m n e (inl (inr p)) = inr (p.0, lower_snoc a b m n (omega arith) (inl p.1))
lower_snoc (k ∷ a) (j ∷ b) m n e (inr q) = inr (cc, lower_snoc a b m n (omega arith) (inr (cc, q.1)))

snoc_lower : (a b : List ℕ) (m n : ℕ) → length a ≡ length b → Lower (a ++ (m ∷ [])) (b ++ (n ∷ [])) → Lower a b ⊎ ((a ≡ b) × (m < n))
snoc_lower [] [] m n e (inl l) = inr (refl, l)
snoc_lower [] [] m n e (inr p) = absurd p.1
snoc_lower [] (j ∷ b) m n e l = absurd (omega arith)
snoc_lower (k ∷ a) [] m n e l = absurd (omega arith)
snoc_lower (k ∷ a) (j ∷ b) m n e (inl l) = inl (inl l)
snoc_lower (k ∷ a) (j ∷ b) m n e (inr p) =
    ⊎_map (λ l. inr (p.0, l)) (λ q. (ap₂ ◌∷◌ p.0 q.0, q.1)) (snoc_lower a b m n (omega arith) p.1)

shortlex_snoc : (a b : List ℕ) (m n : ℕ) → (Shortlex a b ⊎ ((a ≡ b) × (m < n))) ↔ Shortlex (a ++ (m ∷ [])) (b ++ (n ∷ []))
shortlex_snoc a b m n = (to, from)
  where
    to : Shortlex a b ⊎ ((a ≡ b) × (m < n)) → Shortlex (a ++ (m ∷ [])) (b ++ (n ∷ []))
    to (inl (inl l)) = inl (simp length-append (omega arith))
    to (inl (inr p)) = inr (simp length-append (omega arith), lower_snoc a b m n p.0 (inl p.1))
    to (inr q) = inr (simp length-append (omega (arith, ap length q.0)), lower_snoc a b m n (ap length q.0) (inr q))

    shorter : (length (a ++ (m ∷ [])) < length (b ++ (n ∷ []))) → length a < length b
    shorter l = let l' = simp length-append at l in omega arith

    longer : (length (a ++ (m ∷ [])) ≡ length (b ++ (n ∷ []))) → length a ≡ length b
    longer e = let e' = simp length-append at e in omega arith

    from : Shortlex (a ++ (m ∷ [])) (b ++ (n ∷ [])) → Shortlex a b ⊎ ((a ≡ b) × (m < n))
    from (inl l) = inl (inl (shorter l))
    from (inr p) = ⊎_map (λ l. inr (longer p.0, l)) (λ q. q) (snoc_lower a b m n (longer p.0) p.1)

pub before_is : (u v : List ℕ) → Before u v ↔ Shortlex (reverse u) (reverse v)
before_is u v = (to u v, from u v)
  where
    step : (m n : ℕ) (u v : List ℕ)
        → (Shortlex (reverse u) (reverse v) ⊎ ((reverse u ≡ reverse v) × (m < n))) ↔ Shortlex (reverse (m ∷ u)) (reverse (n ∷ v))
    step m n u v = rw (reverse-cons m u, reverse-cons n v) (shortlex_snoc (reverse u) (reverse v) m n)

    to : (u v : List ℕ) → Before u v → Shortlex (reverse u) (reverse v)
    to [] [] b = absurd b
    to [] (n ∷ v) b = inl (omega (arith, length-reverse (n ∷ v)))
    to (m ∷ u) [] b = absurd b
    to (m ∷ u) (n ∷ v) b = (step m n u v).0 (⊎_map (to u v) (λ q. (ap reverse q.0, q.1)) b)

    from : (u v : List ℕ) → Shortlex (reverse u) (reverse v) → Before u v
    from [] [] (inl l) = omega arith
    from [] [] (inr p) = p.1
    from [] (n ∷ v) s = tt
    from (m ∷ u) [] (inl l) = omega arith
    from (m ∷ u) [] (inr p) = lower_right_nil (reverse (m ∷ u)) p.1
    from (m ∷ u) (n ∷ v) s = ⊎_map (from u v) (λ q. (reverse_injective u v q.0, q.1)) ((step m n u v).1 s)

-- so each law of the one order is a law of the other
reading : (u v : List ℕ) → Before (reverse u) (reverse v) ↔ Shortlex u v
reading u v = rw (reverse-reverse u, reverse-reverse v) at (before_is (reverse u) (reverse v))

pub shortlex_irreflexive : (u : List ℕ) → Shortlex u u → ⊥
shortlex_irreflexive u s = before_irreflexive (reverse u) ((reading u u).1 s)

pub shortlex_transitive : (u v w : List ℕ) → Shortlex u v → Shortlex v w → Shortlex u w
shortlex_transitive u v w a b = (reading u w).0 (before_transitive (reverse u) (reverse v) (reverse w) ((reading u v).1 a) ((reading v w).1 b))

pub shortlex_total : (u v : List ℕ) → Shortlex u v ⊎ (u ≡ v) ⊎ Shortlex v u
shortlex_total u v = ⊎_map (reading u v).0 (⊎_map (reverse_injective u v) (reading v u).0) (before_total (reverse u) (reverse v))

pub at_most_antisymmetric : (u v : List ℕ) → AtMost u v → AtMost v u → u ≡ v
at_most_antisymmetric u v (inl a) (inl b) = absurd (shortlex_irreflexive u (shortlex_transitive u v u a b))
at_most_antisymmetric u v (inl a) (inr e) = sym e
at_most_antisymmetric u v (inr e) b = e

pub at_most_transitive : (u v w : List ℕ) → AtMost u v → AtMost v w → AtMost u w
at_most_transitive u v w (inl a) (inl b) = inl (shortlex_transitive u v w a b)
at_most_transitive u v w (inl a) (inr e) = inl (subst (Shortlex u) e a)
at_most_transitive u v w (inr e) b = subst (λ x. AtMost x w) (sym e) b

-- WITH ROOTS
pub earlier_transitive : (i : ℕ) (u : List ℕ) (j : ℕ) (v : List ℕ) (k : ℕ) (w : List ℕ)
    → Earlier i u j v → Earlier j v k w → Earlier i u k w
earlier_transitive i u j v k w (inl a) (inl b) = inl (omega arith)
earlier_transitive i u j v k w (inl a) (inr q) = inl (omega arith)
earlier_transitive i u j v k w (inr p) (inl b) = inl (omega arith)
earlier_transitive i u j v k w (inr p) (inr q) = inr (p.0 ∙ q.0, before_transitive u v w p.1 q.1)

pub earlier_irreflexive : (i : ℕ) (u : List ℕ) → Earlier i u i u → ⊥
earlier_irreflexive i u (inl l) = omega arith
earlier_irreflexive i u (inr p) = before_irreflexive u p.1

pub not_after_antisymmetric : (i : ℕ) (u : List ℕ) (j : ℕ) (v : List ℕ) → NotAfter i u j v → NotAfter j v i u → (i ≡ j) × (u ≡ v)
not_after_antisymmetric i u j v (inl a) (inl b) = absurd (earlier_irreflexive i u (earlier_transitive i u j v i u a b))
not_after_antisymmetric i u j v (inl a) (inr q) = (sym q.0, sym q.1)
not_after_antisymmetric i u j v (inr p) b = p

pub not_after_transitive : (i : ℕ) (u : List ℕ) (j : ℕ) (v : List ℕ) (k : ℕ) (w : List ℕ)
    → NotAfter i u j v → NotAfter j v k w → NotAfter i u k w
not_after_transitive i u j v k w (inl a) (inl b) = inl (earlier_transitive i u j v k w a b)
not_after_transitive i u j v k w (inl a) (inr q) = inl (subst₂ (Earlier i u) q.0 q.1 a)
not_after_transitive i u j v k w (inr p) b = subst₂ (λ x y. NotAfter x y k w) (sym p.0) (sym p.1) b

-- one more letter, the same on both
pub not_after_cons : (m i : ℕ) (u : List ℕ) (j : ℕ) (v : List ℕ) → NotAfter i u j v → NotAfter i (m ∷ u) j (m ∷ v)
not_after_cons m i u j v (inl (inl l)) = inl (inl l)
not_after_cons m i u j v (inl (inr p)) = inl (inr (p.0, inl p.1))
not_after_cons m i u j v (inr p) = inr (p.0, ap (λ w. m ∷ w) p.1)

-- of the first root: in reading order
pub not_after_reads : (i : ℕ) (u v : List ℕ) → NotAfter i u 0 v → AtMost (reverse u) (reverse v)
not_after_reads i u v (inl (inl l)) = absurd (omega arith)
not_after_reads i u v (inl (inr p)) = inl ((before_is u v).0 p.1)
not_after_reads i u v (inr p) = inr (ap reverse p.1)
