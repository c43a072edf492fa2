-- The verdict: the items in order, what speaks against an item, the pairs that are counted, and what a reply means (document 01, "The verdict"). No
-- search is in any of it.
use Rattle.std.specs.Prelude.{◌≡◌, true, false, List, [], ◌∷◌, ◌++◌, ℕ, zero, suc, ◌+◌, ◌*◌}
use Rattle.std.proofs.Math.Option.{Option, none, some}
use Rattle.theory_exploration.specs.Mem.{Mem}
use Rattle.theory_exploration.specs.Size.{Size}
use Rattle.theory_exploration.specs.Order.{AtMost}
use Rattle.theory_model.specs.Model.{Action, local, send, receive, Transition, Model, Configuration, Between, Contents, first, messages, controls}
use Rattle.theory_model.specs.Model.{IsConfiguration, is_at, moved, take?, begin}
use Rattle.theory_model.specs.Diagram.{follow, word}
use Rattle.theory_model.specs.Session.{Session, Inside, Outside, how_far_in, Listed, ListedBad}

-- THE ITEMS
pub data Item : Type 0 where
  start : Item
  -- a control state, and a transition with its number
  step : ℕ → ℕ → Transition → Item
  -- a bad entry with its number
  entry : ℕ → ℕ × ℕ → Item

module _ (M : Model) where
  -- of control state c, the transitions from number t on; and those of n control states from c on
  abbrev pub steps_at : ℕ → ℕ → List Transition → List Item
  steps_at c t [] = []
  steps_at c t (τ ∷ τs) = elim (is_at M c τ) [ true ↦ step c t τ ∷ steps_at c (suc t) τs | false ↦ steps_at c (suc t) τs ]

  abbrev pub steps_from : ℕ → ℕ → List Item
  steps_from c zero = []
  steps_from c (suc n) = steps_at c 0 M.transitions ++ steps_from (suc c) n

abbrev pub entries_from : ℕ → List (ℕ × ℕ) → List Item
entries_from b [] = []
entries_from b (e ∷ es) = entry b e ∷ entries_from (suc b) es

abbrev pub items : Session → List Item
items S = start ∷ (steps_from S.model 0 (controls S.model) ++ entries_from 0 S.bad)

-- WHAT SPEAKS AGAINST AN ITEM: a configuration that is a counterexample to it
-- contents of the control state allow the step, and it leads outside
pub record Leaves (S : Session) (c t : ℕ) (γ : Configuration) : Type 0 where
  pub control : γ.control ≡ c
  pub contents : Contents S.model γ.queues
  pub inside : Inside S γ
  pub after : Configuration
  pub taken : take? S.model t γ ≡ some after
  pub outside : Outside S after

-- contents belong to the control state's set and to the entry's diagram
pub record Meets (S : Session) (e : ℕ × ℕ) (γ : Configuration) : Type 0 where
  pub contents : Contents S.model γ.queues
  pub inside : Inside S γ
  pub listed : Listed S e γ

module _ (S : Session) where
  abbrev pub Counterexample : Item → Configuration → Type 0
  Counterexample start γ = (γ ≡ begin S.model) × Outside S γ
  Counterexample (step c t τ) γ = Leaves S c t γ
  Counterexample (entry b e) γ = Meets S e γ

  abbrev pub Passes : Item → Type 0
  Passes i = (γ : Configuration) → Counterexample i γ → ⊥

-- w is the shortest, and of those the lowest, of the contents that speak against the item
pub record Fails (S : Session) (i : Item) (w : List ℕ) : Type 0 where
  pub shown : Configuration
  pub against : Counterexample S i shown
  pub contents : word shown.queues ≡ w
  pub least : (γ : Configuration) → Counterexample S i γ → AtMost w (word γ.queues)

-- THE PAIRS: where the source and the target stand, before the step and after it; the target may be nowhere
pub data Pair : Type 0 where
  before : ℕ → Option ℕ → Pair
  after : ℕ → Option ℕ → Pair

-- words of all queues; of the queues up to q, after q, before q, from q on
module _ (S : Session) where
  abbrev pub Any : List ℕ → Type 0
  Any u = Between 0 (messages S.model) u

  abbrev pub UpTo : ℕ → List ℕ → Type 0
  UpTo q u = Between 0 (first S.model (suc q)) u

  abbrev pub Beyond : ℕ → List ℕ → Type 0
  Beyond q v = Between (first S.model (suc q)) (messages S.model) v

  abbrev pub Below : ℕ → List ℕ → Type 0
  Below q u = Between 0 (first S.model q) u

  abbrev pub From : ℕ → List ℕ → Type 0
  From q v = Between (first S.model q) (messages S.model) v

module _ (S : Session) (source target : Option ℕ) where
  -- after x the source stands at s, after y the target at t
  abbrev pub Stand : List ℕ → List ℕ → ℕ → Option ℕ → Type 0
  Stand x y s t = (follow S.pool source x ≡ some s) × (follow S.pool target y ≡ t)

  abbrev pub StepPair : Action → Pair → Type 0
  StepPair (send q w) (before s t) = (u : List ℕ) × UpTo S q u × Stand u u s t
  StepPair (send q w) (after s t) = (u v : List ℕ) × UpTo S q u × Beyond S q v × Stand (u ++ v) (u ++ (w ++ v)) s t
  StepPair (receive q w) (before s t) = (u : List ℕ) × Below S q u × Stand u u s t
  StepPair (receive q w) (after s t) = (u v : List ℕ) × Below S q u × From S q v × Stand (u ++ (w ++ v)) (u ++ v) s t
  StepPair local (before s t) = ⊥
  StepPair local (after s t) = (u : List ℕ) × Any S u × Stand u u s t

  abbrev pub BadPair : Pair → Type 0
  BadPair (before s t) = ⊥
  BadPair (after s none) = ⊥
  BadPair (after s (some t)) = (u : List ℕ) × Any S u × Stand u u s (some t)

module _ (S : Session) where
  -- a control state without a root counts nothing: nowhere is never some s
  abbrev pub Visited : Item → Pair → Type 0
  Visited start x = ⊥
  Visited (step c t τ) x = StepPair S (S.root c) (S.root (moved S.model c τ)) τ.action x
  Visited (entry b e) x = BadPair S (S.root e.0) (some e.1) x

  -- the sum over the items of the different pairs
  abbrev pub Sum : List Item → ℕ → Type 0
  Sum [] n = n ≡ 0
  Sum (i ∷ is) n = (k m : ℕ) × Size (Visited i) k × Sum is m × (n ≡ k + m)

-- AT MOST SO MANY PAIRS over n states: before and after, n states for the source, and for the target these and nowhere; of a bad entry, one kind and no nowhere
abbrev pub most_pairs : ℕ → ℕ
most_pairs n = 2 * (n * (n + 1))

-- the pairs of a whole file are at most so many: 256 · 128 steps over 127 states, and 64 bad entries
abbrev pub most_in_all : ℕ
most_in_all = 1066385472

module _ (S : Session) where
  abbrev pub most : Item → ℕ
  most start = 0
  most (step c t τ) = most_pairs S.pool.states
  most (entry b e) = S.pool.states * S.pool.states

-- THE REPLY: leaves has the contents shown, and how far the contents after the step are followed
pub data Reply : Type 0 where
  closed : ℕ → Reply
  outside : Reply
  leaves : ℕ → ℕ → List ℕ → ℕ → Reply
  bad : ℕ → List ℕ → Reply

-- the item is the first of the list that fails, and these are its contents
pub record First (S : Session) (is : List Item) (i : Item) (w : List ℕ) : Type 0 where
  pub earlier : List Item
  pub later : List Item
  pub place : is ≡ earlier ++ (i ∷ later)
  pub each : (j : Item) → Mem j earlier → Passes S j
  pub fails : Fails S i w

module _ (S : Session) where
  -- WHAT A REPLY MEANS, over a list of items
  abbrev pub Means : List Item → Reply → Type 0
  Means is (closed n) = ((i : Item) → Mem i is → Passes S i) × Sum S is n
  -- the contents that speak against the start are those that it has, and nothing is shown of them
  Means is outside = First S is start (word S.model.starting)
  Means is (leaves c t w f) = (τ : Transition) × (F : First S is (step c t τ) w) × (f ≡ how_far_in S F.fails.against.after)
  Means is (bad b w) = (e : ℕ × ℕ) × First S is (entry b e) w

-- WHAT closed COMES TO, with no items in it: the start is inside, no step that can be taken leads from inside to outside, and no listed bad contents are inside
pub record Closed (S : Session) : Type 0 where
  pub start : Inside S (begin S.model)
  pub steps : (γ γ' : Configuration) (t : ℕ) → IsConfiguration S.model γ → Inside S γ → take? S.model t γ ≡ some γ' → Inside S γ'
  pub bad : (γ : Configuration) → Contents S.model γ.queues → Inside S γ → ListedBad S γ → ⊥
