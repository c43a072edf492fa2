-- Where words lead, a letter at a time.
use Rattle.std.specs.Prelude.{◌≡◌, refl, Bool, true, false, List, [], ◌∷◌, ℕ, zero, suc, ◌<◌, ltb}
use Rattle.std.proofs.Math.Option.{Option, none, some, none-ne-some}
use Rattle.std.proofs.Common.{ltb-true, lt-ltb}
use Rattle.std.proofs.Math.ListN.{get_elem?}
use Rattle.theory_exploration.specs.Explore.{along, reach, leads}

module _ {Node : Type 0} (M : ℕ) (δ : Node → ℕ → Option Node) where
  pub along_is : (x : Node) (m : ℕ) (y : Node) → m < M → δ x m ≡ some y → along M δ (some x) m ≡ some y
  along_is x m y l h = rw (lt-ltb m M l, along) h

  pub record Step (o : Option Node) (m : ℕ) (y : Node) : Type 0 where
    pub from : Node
    pub was : o ≡ some from
    pub letter : m < M
    pub step : δ from m ≡ some y

  pub is_along : (o : Option Node) (m : ℕ) (y : Node) → along M δ o m ≡ some y → Step o m y
  is_along none m y h = absurd (none-ne-some y h)
  is_along (some x) m y h = by_test (ltb m M) refl h
    where
      by_test : (b : Bool) → ltb m M ≡ b → elim b [ true ↦ δ x m | false ↦ none ] ≡ some y → Step (some x) m y
      by_test true t e = record { from = x; was = refl; letter = ltb-true m M t; step = e }
      by_test false t e = absurd (none-ne-some y e)

  module _ (roots : List Node) where
    pub leads_nil : (i : ℕ) → leads M δ roots i [] ≡ get_elem? roots i
    leads_nil i = by_root (get_elem? roots i)
      where
        by_root : (o : Option Node) → elim o [ none ↦ none | some r ↦ reach M δ r [] ] ≡ o
        by_root none = refl
        by_root (some r) = refl

    pub leads_cons : (i m : ℕ) (w : List ℕ) → leads M δ roots i (m ∷ w) ≡ along M δ (leads M δ roots i w) m
    leads_cons i m w = by_root (get_elem? roots i)
      where
        by_root : (o : Option Node)
            → elim o [ none ↦ none | some r ↦ reach M δ r (m ∷ w) ] ≡ along M δ (elim o [ none ↦ none | some r ↦ reach M δ r w ]) m
        by_root none = refl
        by_root (some r) = refl

  -- of one root
  pub leads_one : (r : Node) (i : ℕ) (w : List ℕ) (y : Node) → leads M δ (r ∷ []) i w ≡ some y → reach M δ r w ≡ some y
  leads_one r zero w y h = h
  leads_one r (suc i) w y h = absurd (none-ne-some y h)
