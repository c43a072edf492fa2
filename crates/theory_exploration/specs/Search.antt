-- The exploration from one root in the form that code has: one list of the nodes found, each with the place of the node that it was
-- found from, and the place of the node to be taken next. A node is tested when it is taken; the first with the property ends the search.
use Rattle.std.specs.Prelude.{Bool, true, false, List, [], ◌∷◌, ◌++◌, ℕ, zero, suc}
use Rattle.std.proofs.Math.Option.{Option, none, some}
use Rattle.std.proofs.Math.ListN.{get_elem?}
use Rattle.theory_exploration.specs.Explore.{seen}

pub record Found (Node : Type 0) : Type 0 where
  pub at : Node
  -- the place of the node that it was found from; 0 for the root
  pub parent : ℕ

pub data Outcome (Node : Type 0) : Type 0 where
  -- the place of the first that has the property, and what was found before it was taken
  found : ℕ → List (Found Node) → Outcome Node
  -- none has it; all that there is
  finished : List (Found Node) → Outcome Node

module _ {Node : Type 0} (same : Node → Node → Bool) where
  -- a node found from the place h goes to the end, unless it is there
  abbrev pub push : ℕ → Option Node → List (Found Node) → List (Found Node)
  push h none L = L
  push h (some y) L = elim (seen (λ f. f.at) same L y) [ true ↦ L | false ↦ L ++ (record { at = y; parent = h } ∷ []) ]

  abbrev pub leads_to : Option Node → Node → Bool
  leads_to none y = false
  leads_to (some z) y = same z y

module _ {Node : Type 0} (δ : Node → ℕ → Option Node) (same : Node → Node → Bool) where
  -- so many letters from m on, from the node x at the place h
  unfoldable pub sweep : Node → ℕ → ℕ → ℕ → List (Found Node) → List (Found Node)
  sweep x h zero m L = L
  sweep x h (suc left) m L = sweep x h left (suc m) (push same h (δ x m) L)

  -- the lowest that leads from x to y, of so many letters from m on
  unfoldable pub lowest_from : Node → Node → ℕ → ℕ → ℕ
  lowest_from x y zero m = m
  lowest_from x y (suc left) m = elim (leads_to same (δ x m) y) [ true ↦ m | false ↦ lowest_from x y left (suc m) ]

module _ {Node : Type 0} (M : ℕ) (δ : Node → ℕ → Option Node) (same : Node → Node → Bool) where
  -- the node at the place h is taken next, and at most so many are taken
  unfoldable pub search : (Node → Bool) → ℕ → ℕ → List (Found Node) → Outcome Node
  search p zero h L = finished L
  search p (suc fuel) h L =
      elim (get_elem? L h) [
        | none ↦ finished L
        | some f ↦ elim (p f.at) [ true ↦ found h L | false ↦ search p fuel (suc h) (sweep δ same f.at h M 0 L) ]
      ]

  abbrev pub search_from : (Node → Bool) → Node → ℕ → Outcome Node
  search_from p r fuel = search p fuel 0 (record { at = r; parent = 0 } ∷ [])

  abbrev pub lowest : Node → Node → ℕ
  lowest x y = lowest_from δ same x y M 0

  -- THE WORD of a place, last letter first: at most so many parents are followed, and the letter of an edge is the lowest along it
  unfoldable pub trace_from : List (Found Node) → ℕ → ℕ → List ℕ
  trace_from L zero k = []
  trace_from L (suc n) zero = []
  trace_from L (suc n) (suc k) =
      elim (get_elem? L (suc k)) [
        | none ↦ []
        | some f ↦ elim (get_elem? L f.parent) [ none ↦ [] | some g ↦ lowest g.at f.at ∷ trace_from L n f.parent ]
      ]

  -- parents stand earlier, so a place has no more edges than its number
  abbrev pub trace : List (Found Node) → ℕ → List ℕ
  trace L k = trace_from L k k
