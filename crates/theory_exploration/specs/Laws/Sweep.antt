-- A sweep over the letters of a node finds its fresh children, each by its lowest letter.
use Rattle.std.specs.Prelude.{◌≡◌, refl, Bool, true, false, ℕ, zero, suc, ◌+◌, ◌<◌}
use Rattle.std.proofs.Common.{ap, sym, ◌∙◌, inl, inr, arith}
use Rattle.std.proofs.Math.Option.{Option, some, none-ne-some, some-injective}
use mathlib.Core.List.Memᴰ
use mathlib.Core.List.{List, [], ◌∷◌, ◌++◌, append-nil}
use Rattle.std.proofs.Math.Decide.{dec_lt}
use Rattle.std.proofs.Math.ListN.{get_elem?}
use Rattle.std.proofs.Math.Seq.{append_snoc}
use Rattle.theory_exploration.specs.Mem.{Mem, here, All}
use Rattle.theory_exploration.specs.Explore.{Entry, extend, children_from, seen, fresh, IsEquality}
use Rattle.theory_exploration.specs.Search.{Found, push, sweep, lowest}
use Rattle.theory_exploration.specs.Laws.Fresh.{Seen, seen_is, fresh_old, fresh_new}
use Rattle.theory_exploration.specs.Laws.Entries.{children_from_cases}
use Rattle.theory_exploration.specs.Laws.Places.{place_left}
use Rattle.theory_exploration.specs.Laws.Agree.{Agree, agree_more, agree_seen, lowest_is}

-- where the letters below m lead is found already
abbrev Swept : {Node : Type 0} → (Node → ℕ → Option Node) → Node → ℕ → List (Entry Node) → Type 0
Swept {Node} δ x m Q = (j : ℕ) (z : Node) → j < m → δ x j ≡ some z → (f : Entry Node) × Mem f Q × (f.at ≡ z)

swept_next : {Node : Type 0} (δ : Node → ℕ → Option Node) (x : Node) (m : ℕ) (Q : List (Entry Node)) → Swept δ x m Q
    → ((z : Node) → δ x m ≡ some z → (f : Entry Node) × Mem f Q × (f.at ≡ z)) → Swept δ x (suc m) Q
swept_next {Node} δ x m Q s last j z l d = by_letter (dec_lt j m)
  where
    by_letter : Dec (j < m) → (f : Entry Node) × Mem f Q × (f.at ≡ z)
    by_letter (yes k) = s j z k d
    by_letter (no g) = let q : m ≡ j = omega arith in last z (ap (δ x) q ∙ d)

module _ {Node : Type 0} (same : Node → Node → Bool) where
  push_old : (h : ℕ) (y : Node) (L : List (Found Node)) → seen (λ f. f.at) same L y ≡ true → push same h (some y) L ≡ L
  push_old h y L t = rw (t, push)

  push_new : (h : ℕ) (y : Node) (L : List (Found Node)) → seen (λ f. f.at) same L y ≡ false
      → push same h (some y) L ≡ L ++ (record { at = y; parent = h } ∷ [])
  push_new h y L t = rw (t, push)

module _ {Node : Type 0} (M : ℕ) (δ : Node → ℕ → Option Node) (same : Node → Node → Bool) where
  -- a sweep of so many letters from m on agrees with the fresh of the children C
  abbrev Sweeps : ℕ → Entry Node → ℕ → ℕ → List (Entry Node) → List (Found Node) → List (Entry Node) → Type 0
  Sweeps h e left m C L Q = Agree M δ same (sweep δ same e.at h left m L) (Q ++ fresh (λ e. e.at) same Q C)

  sweep_nothing : (h m : ℕ) (e : Entry Node) (L : List (Found Node)) (Q : List (Entry Node)) → Agree M δ same L Q
      → Sweeps h e 0 m (children_from δ e 0 m) L Q
  unfolding sweep children_from fresh
  sweep_nothing h m e L Q a = rw append-nil a

  -- the letters after m
  abbrev Below : ℕ → Entry Node → ℕ → ℕ → Type 0
  Below h e left m =
      (L : List (Found Node)) (Q : List (Entry Node)) → get_elem? Q h ≡ some e → Agree M δ same L Q → Swept δ e.at (suc m) Q
      → Sweeps h e left (suc m) (children_from δ e left (suc m)) L Q

module _ {Node : Type 0} (M : ℕ) (δ : Node → ℕ → Option Node) (same : Node → Node → Bool) (equal : IsEquality same) where
  module _ (h : ℕ) (e : Entry Node) (left m : ℕ) (high : m < M) (below : Below M δ same h e left m)
      (L : List (Found Node)) (Q : List (Entry Node)) (at : get_elem? Q h ≡ some e) (a : Agree M δ same L Q) (s : Swept δ e.at m Q) where
    abbrev Letter : Node → Type 0
    Letter y = Sweeps M δ same h e left (suc m) (extend e m y ∷ children_from δ e left (suc m)) (push same h (some y) L) Q

    old_letter : (y : Node) → δ e.at m ≡ some y → (f : Entry Node) → Mem f Q → f.at ≡ y → seen (λ e. e.at) same Q y ≡ true → Letter y
    old_letter y t f k q b =
        let C : List (Entry Node) = children_from δ e left (suc m) in
        rw (push_old same h y L (agree_seen M δ same L Q a y ∙ b), fresh_old (λ e. e.at) same Q (extend e m y) C b)
        (below L Q at a (swept_next δ e.at m Q s (λ z d. (f, k, q ∙ some-injective y z (sym t ∙ d)))))

    new_letter : (y : Node) → δ e.at m ≡ some y → All (λ f. f.at ≡ y → ⊥) Q → seen (λ e. e.at) same Q y ≡ false → Letter y
    new_letter y t new b =
        rw (push_new same h y L (agree_seen M δ same L Q a y ∙ b), fresh_new (λ e. e.at) same Q c (children_from δ e left (suc m)) b)
        (rw append_snoc at (below (L ++ (f ∷ [])) (Q ++ (c ∷ [])) (place_left Q (c ∷ []) h e at) more known))
      where
        f : Found Node
        f = record { at = y; parent = h }

        c : Entry Node
        c = extend e m y

        low : lowest M δ same e.at y ≡ m
        low =
            lowest_is M δ same equal e.at y M 0 m (omega arith) (omega arith) t
            (λ j l d. let g = s j y l d in new g.0 g.1 g.2)

        more : Agree M δ same (L ++ (f ∷ [])) (Q ++ (c ∷ []))
        more = agree_more M δ same L Q a h e at m y low

        known : Swept δ e.at (suc m) (Q ++ (c ∷ []))
        known =
            swept_next δ e.at m (Q ++ (c ∷ []))
            (λ j z l d. let g = s j z l d in (g.0, Memᴰ.append_left (c ∷ []) g.1, g.2))
            (λ z d. (c, Memᴰ.append_right Q (here refl), some-injective y z (sym t ∙ d)))

    step_sweeps : Sweeps M δ same h e (suc left) m (children_from δ e (suc left) m) L Q
    unfolding sweep
    step_sweeps =
        children_from_cases δ (λ C. Sweeps M δ same h e left (suc m) C (push same h (δ e.at m) L) Q) e left m
        (λ t. rw t (below L Q at a (swept_next δ e.at m Q s (λ z d. absurd (none-ne-some z (sym t ∙ d))))))
        (λ y t. rw t (by_test y t (seen_is (λ e. e.at) same equal Q y)))
      where
        by_test : (y : Node) → δ e.at m ≡ some y → Seen (λ e. e.at) same Q y → Letter y
        by_test y t (inl k) = old_letter y t k.0 k.1 k.2 k.3
        by_test y t (inr k) = new_letter y t k.0 k.1

  pub sweep_agrees : (h : ℕ) (e : Entry Node) (left m : ℕ) → m + left ≡ M → (L : List (Found Node)) (Q : List (Entry Node))
      → get_elem? Q h ≡ some e → Agree M δ same L Q
      → ((j : ℕ) (z : Node) → j < m → δ e.at j ≡ some z → (f : Entry Node) × Mem f Q × (f.at ≡ z))
      → Agree M δ same (sweep δ same e.at h left m L) (Q ++ fresh (λ e. e.at) same Q (children_from δ e left m))
  sweep_agrees h e zero m all L Q at a s = sweep_nothing M δ same h m e L Q a
  sweep_agrees h e (suc left) m all L Q at a s =
      step_sweeps h e left m (omega arith) (sweep_agrees h e left (suc m) (omega arith)) L Q at a s
