-- The arcs of a state as the table has them, in order of their messages, against a list of arcs that ascends.
use Prim.Native.Nat.{ℕ, zero, suc, ◌+◌, ◌≤◌, ◌<◌}
use Rattle.std.specs.Prelude.{◌≡◌, Bool, length}
use Rattle.std.proofs.Math.Path.{refl, sym, subst}
use Rattle.std.proofs.Common.{ap, ◌∙◌, eqb-true, eq-eqb, ne_eqb}
use Rattle.std.proofs.Math.Bool.{true, false}
use mathlib.Core.List.{List, [], ◌∷◌}
use Rattle.std.proofs.Math.Option.{Option, none, some}
use Rattle.std.proofs.Math.Dec.{eqb}
use native.Mathlib.Omega.{arith}
use Rattle.tables.specs.Limits.{most_messages}
use Rattle.tables.specs.Pool.{arc_at}
use Rattle.tables.specs.Valid.{PoolValid}
use Rattle.tables.specs.Laws.Pool.{arc_valid}
use Rattle.tables.specs.declared.tables.Pool.{Pool}
use Rattle.numbers.specs.Laws.Written.{at_or_other}
use Rattle.theory_model.specs.Laws.Basics.{none_not_some}
use Rattle.reading_pool.specs.Laws.Arcs.{listed_arc, Ascends, arc_not_below}
use Rattle.theory_format.specs.Spelled.{arcs_of}

listed_first : (arc : ℕ × ℕ) (rest : List (ℕ × ℕ)) (k : ℕ) → k ≡ arc.0 → listed_arc (arc ∷ rest) k ≡ some arc.1
unfolding listed_arc
listed_first arc rest k e =
    ap (λ b. elim b as (λ _. Option ℕ) [ true ↦ some arc.1 | false ↦ listed_arc rest k ]) (eq-eqb k arc.0 e)

listed_later : (arc : ℕ × ℕ) (rest : List (ℕ × ℕ)) (k : ℕ) → (k ≡ arc.0 → ⊥) → listed_arc (arc ∷ rest) k ≡ listed_arc rest k
unfolding listed_arc
listed_later arc rest k e =
    ap (λ b. elim b as (λ _. Option ℕ) [ true ↦ some arc.1 | false ↦ listed_arc rest k ]) (ne_eqb k arc.0 e)

-- a list of arcs that begins with the arc for message m to t
record First (n sum m t : ℕ) (l : List (ℕ × ℕ)) : Type 0 where
  rest : List (ℕ × ℕ)
  is : l ≡ (m, t) ∷ rest
  ascends : Ascends n sum (m + 1) rest

module _ (n sum : ℕ) where
  ascends_from : (a b : ℕ) (l : List (ℕ × ℕ)) → a ≤ b → Ascends n sum b l → Ascends n sum a l
  unfolding Ascends
  ascends_from a b [] h z = tt
  ascends_from a b (arc ∷ rest) h z = (omega (arith, z.0), z.1, z.2, z.3)

  -- messages differ, so there are no more arcs than messages
  pub ascends_few : (least : ℕ) (l : List (ℕ × ℕ)) → least ≤ sum → Ascends n sum least l → least + length l ≤ sum
  unfolding Ascends
  ascends_few least [] h z = omega arith
  ascends_few least (arc ∷ rest) h z =
      omega (arith, z.0, z.1, ascends_few (arc.0 + 1) rest (omega (arith, z.1)) z.3)

  -- a list from m on begins after m or with the arc for m
  ascends_after : (m : ℕ) (l : List (ℕ × ℕ)) → Ascends n sum m l → listed_arc l m ≡ none → Ascends n sum (m + 1) l
  unfolding Ascends
  ascends_after m [] z e = tt
  ascends_after m (arc ∷ rest) z e =
      let apart : m ≡ arc.0 → ⊥ = λ d. none_not_some e (listed_first arc rest m d) in
      (omega (arith, z.0), z.1, z.2, z.3)

  ascends_first : (m t : ℕ) (l : List (ℕ × ℕ)) → Ascends n sum m l → listed_arc l m ≡ some t → First n sum m t l
  unfolding Ascends listed_arc
  ascends_first m t [] z e = none_not_some refl e
  ascends_first m t (arc ∷ rest) z e = go (eqb m arc.0) refl e
    where
      go : (b : Bool) → eqb m arc.0 ≡ b
          → (elim b as (λ _. Option ℕ) [ true ↦ some arc.1 | false ↦ listed_arc rest m ]) ≡ some t → First n sum m t (arc ∷ rest)
      go true f g =
          let p₀ : arc.0 ≡ m = sym (eqb-true m arc.0 f) in
          let p₁ : arc.1 ≡ t = cc in
          record { rest = rest; is = λ i. (p₀ i, p₁ i) ∷ rest; ascends = subst (λ k. Ascends n sum (k + 1) rest) p₀ z.3 }
      go false f g = none_not_some (arc_not_below n sum (arc.0 + 1) rest m z.3 (omega (arith, z.0))) g

module _ (table : List ℕ) (i : ℕ) where
  -- the arcs from message m on say nothing of an earlier message
  arcs_say_none : (left m k : ℕ) → k < m → listed_arc (arcs_of table i left m) k ≡ none
  unfolding arcs_of listed_arc
  arcs_say_none zero m k h = refl
  arcs_say_none (suc left) m k h = go (arc_at table i m) (arcs_say_none left (m + 1) k (omega arith))
    where
      go : (o : Option ℕ) → listed_arc (arcs_of table i left (m + 1)) k ≡ none
          → listed_arc
          (elim o as (λ _. List (ℕ × ℕ)) [ none ↦ arcs_of table i left (m + 1) | some t ↦ (m, t) ∷ arcs_of table i left (m + 1) ]) k
          ≡ none
      go none e = e
      go (some t) e = listed_later (m, t) (arcs_of table i left (m + 1)) k (omega arith) ∙ e

  -- and of the others what the table says
  pub arcs_say : (left m k : ℕ) → m ≤ k → k < m + left → listed_arc (arcs_of table i left m) k ≡ arc_at table i k
  unfolding arcs_of
  arcs_say zero m k h g = absurd (omega arith)
  arcs_say (suc left) m k h g =
      go (arc_at table i m) refl (λ l. arcs_say left (m + 1) k l (omega arith))
    where
      rest : List (ℕ × ℕ)
      rest = arcs_of table i left (m + 1)

      at : Option ℕ → List (ℕ × ℕ)
      at o = elim o as (λ _. List (ℕ × ℕ)) [ none ↦ rest | some t ↦ (m, t) ∷ rest ]

      go : (o : Option ℕ) → arc_at table i m ≡ o → (m + 1 ≤ k → listed_arc rest k ≡ arc_at table i k)
          → listed_arc (at o) k ≡ arc_at table i k
      go none e later =
          at_or_other (λ j. (m + 1 ≤ j → listed_arc rest j ≡ arc_at table i j) → m ≤ j → listed_arc rest j ≡ arc_at table i j) m k
          (λ _ _. arcs_say_none left (m + 1) m (omega arith) ∙ sym e) (λ d f l. f (omega arith)) later h
      go (some t) e later =
          at_or_other
          (λ j. (m + 1 ≤ j → listed_arc rest j ≡ arc_at table i j) → m ≤ j → listed_arc ((m, t) ∷ rest) j ≡ arc_at table i j) m k
          (λ _ _. listed_first (m, t) rest m refl ∙ sym e)
          (λ d f l. listed_later (m, t) rest k d ∙ f (omega arith)) later h

  module _ (n sum : ℕ) where
    pub arcs_ascending : (left m : ℕ)
        → ((k t : ℕ) → m ≤ k → k < m + left → arc_at table i k ≡ some t → (k < sum) × (t < n))
        → Ascends n sum m (arcs_of table i left m)
    unfolding arcs_of Ascends
    arcs_ascending zero m f = tt
    arcs_ascending (suc left) m f =
        go (arc_at table i m) refl (arcs_ascending left (m + 1) (λ k t h g e. f k t (omega arith) (omega arith) e))
      where
        go : (o : Option ℕ) → arc_at table i m ≡ o → Ascends n sum (m + 1) (arcs_of table i left (m + 1))
            → Ascends n sum m
            (elim o as (λ _. List (ℕ × ℕ)) [ none ↦ arcs_of table i left (m + 1) | some t ↦ (m, t) ∷ arcs_of table i left (m + 1) ])
        go none e z = ascends_from n sum m (m + 1) (arcs_of table i left (m + 1)) (omega arith) z
        go (some t) e z = let r = f m t (omega arith) (omega arith) e in (omega arith, r.0, r.1, z)

    -- AN ASCENDING LIST THAT SAYS WHAT THE TABLE SAYS is the table's
    pub arcs_are : (left m : ℕ) (l : List (ℕ × ℕ)) → sum ≤ m + left → Ascends n sum m l
        → ((k : ℕ) → m ≤ k → k < m + left → listed_arc l k ≡ arc_at table i k) → l ≡ arcs_of table i left m
    unfolding arcs_of Ascends
    arcs_are zero m [] h z f = refl
    arcs_are zero m (arc ∷ rest) h z f = absurd (omega (arith, z.0, z.1))
    arcs_are (suc left) m l h z f =
        go (arc_at table i m) refl (λ l' z' f'. arcs_are left (m + 1) l' (omega arith) z' f')
      where
        rest : List (ℕ × ℕ)
        rest = arcs_of table i left (m + 1)

        go : (o : Option ℕ) → arc_at table i m ≡ o
            → ((l' : List (ℕ × ℕ)) → Ascends n sum (m + 1) l'
            → ((k : ℕ) → m + 1 ≤ k → k < m + 1 + left → listed_arc l' k ≡ arc_at table i k) → l' ≡ rest)
            → l ≡ (elim o as (λ _. List (ℕ × ℕ)) [ none ↦ rest | some t ↦ (m, t) ∷ rest ])
        go none e same =
            same l (ascends_after n sum m l z (f m (omega arith) (omega arith) ∙ e)) (λ k a b. f k (omega arith) (omega arith))
        go (some t) e same =
            let first = ascends_first n sum m t l z (f m (omega arith) (omega arith) ∙ e) in
            first.is
            ∙ ap (λ u. (m, t) ∷ u)
            (same first.rest first.ascends (λ k a b.
            sym (listed_later (m, t) first.rest k (omega arith)) ∙ sym (ap (λ u. listed_arc u k) first.is)
            ∙ f k (omega arith) (omega arith)))

pub pool_ascending : {sum : ℕ} {P : Pool} (i : ℕ) → sum ≤ most_messages → PoolValid sum P
    → Ascends P.count sum 0 (arcs_of P.arcs i sum 0)
pool_ascending {sum} {P} i few z =
    arcs_ascending P.arcs i P.count sum sum 0
    (λ k t h g e. let v = arc_valid i k z (omega arith) e in (v.message, v.to))
