-- THE CONTENTS SHOWN for a pair that was found: read back along the parents in the lent tables, an edge by its lowest letter, and the step
-- as the messages that it takes out.
use Rattle.std.specs.Prelude.{◌≡◌, true, false, List, [], ◌∷◌, ◌++◌, reverse, ℕ, zero, suc, ◌+◌, ◌-◌, ◌<◌, eqb, length, get_or, drop}
use Rattle.std.specs.Prelude.{◌≤◌, MatchOption}
use Rattle.std.specs.Prelude as Code
use Rattle.std.proofs.lemmas.List.Edits.{sets}
use Rattle.theory_exploration.specs.Search.{lowest}
use Rattle.theory_model.specs.Judge.{same}
use Rattle.checking_pairs.specs.declared.pairs.Walk.{Walk}
use Rattle.checking_walk.specs.declared.edges.Edge.{Edge}
use Rattle.checking_pairs.specs.Pairs.{decode}
use Rattle.checking_pairs.specs.Marks.{Tables}
use Rattle.following.specs.Standing.{word_over}
use Rattle.checking_pairs.specs.Over.{go_over}

-- the place of the parent of the pair at place k
abbrev pub parent_of : List ℕ → List ℕ → ℕ → ℕ
parent_of seen queue k = get_or seen (get_or queue k 0) 0 - 1

-- what a letter stands for
abbrev pub part_over : List ℕ → Walk → ℕ → List ℕ
part_over rows w m = elim (eqb m w.sum) [ true ↦ word_over rows w.word w.out | false ↦ m ∷ [] ]

module _ (arcs rows : List ℕ) (w : Walk) where
  -- the lowest letter that leads from the pair of one number to that of another
  abbrev pub letter_over : ℕ → ℕ → ℕ
  letter_over c d = lowest (suc w.sum) (go_over arcs rows w) same (decode c) (decode d)

  module _ (seen queue : List ℕ) where
    abbrev pub edge_letter : ℕ → ℕ
    edge_letter k = letter_over (get_or queue (parent_of seen queue k) 0) (get_or queue k 0)

    -- what is shown for the pair at place k, where at most so many parents are followed
    unfoldable pub shown_from : ℕ → ℕ → List ℕ
    shown_from zero k = []
    shown_from (suc n) zero = []
    shown_from (suc n) (suc k) = shown_from n (parent_of seen queue (suc k)) ++ part_over rows w (edge_letter (suc k))

    -- parents stand earlier, so a place has no more edges than its number
    abbrev pub shown_over : ℕ → List ℕ
    shown_over k = shown_from k k

-- the lowest of the messages below end that leads somewhere is low; where none does that is the end, or past it
pub record LowestBelow (end low : ℕ) (r : Code.Option ℕ) : Type 0 where
  pub is : MatchOption r (end ≤ low) (λ m. (m ≡ low) × (m < end))

-- place k of the queue has a pair
pub record Placed (seen queue : List ℕ) (k : ℕ) : Type 0 where
  pub tail : ℕ
  pub tables : Tables seen queue tail
  pub within : k < tail

-- the edge to the pair at place k
pub record EdgeOf (arcs rows : List ℕ) (w : Walk) (seen queue : List ℕ) (k : ℕ) (e : Edge) : Type 0 where
  pub parent : e.parent ≡ parent_of seen queue k
  pub earlier : e.parent < k
  pub letter : e.letter ≡ edge_letter arcs rows w seen queue k

-- u was laid last message first from the place start of the contents on, and the next place is r
pub record Laid (u : List ℕ) (start : ℕ) (contents contents' : List ℕ) (r : ℕ) : Type 0 where
  pub is : contents' ≡ sets contents start (reverse u)
  pub next : r ≡ start + length u

-- u fills the front of the contents, and the rest keeps its bytes
pub record Shown (u contents contents' : List ℕ) (r : ℕ) : Type 0 where
  pub number : r ≡ length u
  pub is : contents' ≡ u ++ drop r contents
