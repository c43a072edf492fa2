-- The two runs: what a reply says of the run of any list of numbers, and all that is promised of a reply (document 01, demand 3).
use Rattle.std.specs.Prelude.{◌≡◌, List, ℕ, ◌≤◌}
use Rattle.std.proofs.Math.Option.{some}
use Rattle.std.proofs.Math.ListN.{get_elem?}
use Rattle.theory_exploration.specs.Mem.{Mem}
use Rattle.theory_exploration.specs.Size.{Size}
use Rattle.theory_model.specs.Model.{Configuration, begin, run}
use Rattle.theory_model.specs.Diagram.{word}
use Rattle.theory_model.specs.Session.{Session, Inside, Outside, how_far_in, ListedBad}
use Rattle.theory_model.specs.Verdict.{Item, items, Leaves, Meets, Means, Visited, most, Reply, closed, outside, leaves, bad}
use Rattle.theory_model.specs.Judge.{verdict}

module _ (S : Session) (ts : List ℕ) where
  -- what a reply says of the run
  abbrev pub Says : Reply → Type 0
  -- closed accepts: each configuration of the run is inside, and none is listed as bad
  Says (closed n) = (γ : Configuration) → Mem γ (run S.model ts) → Inside S γ × (ListedBad S γ → ⊥)
  Says outside = Outside S (begin S.model)
  -- leaves rejects its step, at its control state and the contents shown: it leads outside, and the contents there are followed so far
  Says (leaves c t w f) = (γ : Configuration) × (L : Leaves S c t γ) × (word γ.queues ≡ w) × (f ≡ how_far_in S L.after)
  Says (bad b w) = (e : ℕ × ℕ) × (get_elem? S.bad b ≡ some e) × (γ : Configuration) × Meets S e γ × (word γ.queues ≡ w)

pub record TwoRuns (S : Session) (r : Reply) (ts : List ℕ) : Type 0 where
  pub defined : r ≡ verdict S
  pub says : Says S ts r
  -- the first failing item with its least contents; of closed, the number is the sum over the items of the different pairs
  pub means : Means S (items S) r
  pub bounds : (i : Item) → Mem i (items S) → (k : ℕ) → Size (Visited S i) k → k ≤ most S i
