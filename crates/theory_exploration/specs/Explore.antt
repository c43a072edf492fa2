-- Exploring a deterministic labelled graph breadth first, from roots one after the other, over one list; and what is reached, said with
-- no search in it.
use Rattle.std.specs.Prelude.{◌≡◌, ◌↔◌, Bool, true, false, List, [], ◌∷◌, ◌++◌, ℕ, zero, suc, ltb}
use Rattle.std.proofs.Math.Option.{Option, none, some}
use Rattle.std.proofs.Math.ListN.{get_elem?}
use Rattle.theory_exploration.specs.Order.{Earlier}

-- WHAT IS REACHED. Words are stored last letter first
module _ {Node : Type 0} (M : ℕ) (δ : Node → ℕ → Option Node) where
  -- letters are the numbers below M; nowhere leads nowhere
  abbrev pub along : Option Node → ℕ → Option Node
  along none m = none
  along (some x) m = elim (ltb m M) [ true ↦ δ x m | false ↦ none ]

  -- where a word leads from a node
  abbrev pub reach : Node → List ℕ → Option Node
  reach x [] = some x
  reach x (m ∷ w) = along (reach x w) m

  -- where it leads from the i-th root
  abbrev pub leads : List Node → ℕ → List ℕ → Option Node
  leads roots i w = elim (get_elem? roots i) [ none ↦ none | some r ↦ reach r w ]

  abbrev pub Reached : List Node → Node → Type 0
  Reached roots y = (i : ℕ) × (w : List ℕ) × (leads roots i w ≡ some y)

  -- from one root
  abbrev pub ReachedFrom : Node → Node → Type 0
  ReachedFrom r y = (w : List ℕ) × (reach r w ≡ some y)

-- the test is one of equality
abbrev pub IsEquality : {Node : Type 0} → (Node → Node → Bool) → Type 0
IsEquality {Node} same = (x y : Node) → (same x y ≡ true) ↔ (x ≡ y)

-- SEARCHING BREADTH FIRST over any entries that have a node and children. The fuel is the most entries that are done
module _ {E Node : Type 0} (node : E → Node) (same : Node → Node → Bool) where
  abbrev pub seen : List E → Node → Bool
  seen [] x = false
  seen (e ∷ Q) x = elim (same (node e) x) [ true ↦ true | false ↦ seen Q x ]

  -- of the entries, in their order, those whose node is not yet in the list
  unfoldable pub fresh : List E → List E → List E
  fresh Q [] = []
  fresh Q (c ∷ cs) = elim (seen Q (node c)) [ true ↦ fresh Q cs | false ↦ c ∷ fresh (Q ++ (c ∷ [])) cs ]

  module _ (children : E → List E) where
    -- the first entry that is to do is done: its fresh children come last
    unfoldable pub expand : ℕ → List E → List E → List E
    expand zero done todo = done ++ todo
    expand (suc fuel) done [] = done
    expand (suc fuel) done (e ∷ todo) = expand fuel (done ++ (e ∷ [])) (todo ++ fresh (done ++ (e ∷ todo)) (children e))

    -- from each start to the end before the next; each has the fuel to itself
    unfoldable pub rounds : ℕ → List E → List E → List E
    rounds fuel [] Q = Q
    rounds fuel (s ∷ starts) Q = rounds fuel starts (expand fuel Q (fresh Q (s ∷ [])))

-- THE EXPLORATION
pub record Entry (Node : Type 0) : Type 0 where
  pub at : Node
  -- the place of its root, and the word that leads from there to the node
  pub root : ℕ
  pub word : List ℕ

module _ {Node : Type 0} where
  -- by root, then shortest, then lowest
  abbrev pub Precedes : Entry Node → Entry Node → Type 0
  Precedes e f = Earlier e.root e.word f.root f.word

  abbrev pub extend : Entry Node → ℕ → Node → Entry Node
  extend e m y = record { at = y; root = e.root; word = m ∷ e.word }

  -- the roots, from the i-th on
  unfoldable pub starts : ℕ → List Node → List (Entry Node)
  starts i [] = []
  starts i (r ∷ roots) = record { at = r; root = i; word = [] } ∷ starts (suc i) roots

module _ {Node : Type 0} (δ : Node → ℕ → Option Node) where
  -- where so many letters lead, from m on
  unfoldable pub children_from : Entry Node → ℕ → ℕ → List (Entry Node)
  children_from e zero m = []
  children_from e (suc left) m =
      elim (δ e.at m) [ none ↦ children_from e left (suc m) | some y ↦ extend e m y ∷ children_from e left (suc m) ]

module _ {Node : Type 0} (M : ℕ) (δ : Node → ℕ → Option Node) where
  abbrev pub children : Entry Node → List (Entry Node)
  children e = children_from δ e M 0

  unfoldable pub explore : (Node → Node → Bool) → List Node → ℕ → List (Entry Node)
  explore same roots fuel = rounds (λ e. e.at) same children fuel (starts 0 roots) []

module _ {A : Type 0} where
  abbrev pub first_by : (A → Bool) → List A → Option A
  first_by p [] = none
  first_by p (x ∷ l) = elim (p x) [ true ↦ some x | false ↦ first_by p l ]
