-- The verdict, computed: the pairs of an item explored breadth first, and the items judged in order.
use Rattle.std.specs.Prelude.{Bool, true, false, ◌&&◌, not, List, [], ◌∷◌, ◌++◌, reverse, ℕ, suc, ◌+◌, eqb, ltb, length, drop}
use Rattle.std.proofs.Math.Option.{Option, none, some, map}
use Rattle.theory_exploration.specs.Explore.{Entry, explore, first_by}
use Rattle.theory_model.specs.Model.{Action, Transition, local, send, receive, messages, first, moved, begin}
use Rattle.theory_model.specs.Diagram.{along, follow, how_far, is_final, front_of, rest_of, word}
use Rattle.theory_model.specs.Session.{Session, inside}
use Rattle.theory_model.specs.Verdict.{Item, start, step, entry, items, Pair, before, after, most_pairs, Reply, closed, outside, leaves, bad}

-- the same place: both nowhere, or the same state
abbrev pub same_place : Option ℕ → Option ℕ → Bool
same_place none none = true
same_place none (some t) = false
same_place (some s) none = false
same_place (some s) (some t) = eqb s t

abbrev pub same : Pair → Pair → Bool
same (before s t) (before s' t') = eqb s s' && same_place t t'
same (before s t) (after s' t') = false
same (after s t) (before s' t') = false
same (after s t) (after s' t') = eqb s s' && same_place t t'

-- A step parts the contents: before it they are u, out, v; after it u, into, v; with u of messages below the cut and v of messages from the cut on
module _ (S : Session) where
  abbrev pub cut : Action → ℕ
  cut local = 0
  cut (send q w) = first S.model (suc q)
  cut (receive q w) = first S.model q

abbrev pub out : Action → List ℕ
out local = []
out (send q w) = []
out (receive q w) = w

abbrev pub into : Action → List ℕ
into local = []
into (send q w) = w
into (receive q w) = []

-- contents with so many messages taken out, and others put in, behind those below the cut
abbrev pub exchanged : ℕ → ℕ → List ℕ → List ℕ → List ℕ
exchanged cut out into u = front_of cut u ++ (into ++ drop out (rest_of cut u))

module _ (S : Session) where
  -- how far the contents after a step are followed, from those before it
  unfoldable pub far_after : ℕ → Transition → List ℕ → ℕ
  far_after c τ u = how_far S.pool (S.root (moved S.model c τ)) (exchanged (cut S τ.action) (length (out τ.action)) (into τ.action) u)

-- a walk over pairs: of a step, where the target may be nowhere and should accept; or of a bad entry, where it may not and should not
pub record Walk : Type 0 where
  pub cut : ℕ
  pub out : List ℕ
  pub into : List ℕ
  pub entry : Bool

-- a walk, and the pair that it begins with
pub record Begun : Type 0 where
  pub walk : Walk
  pub root : Pair

-- a pair is dropped where the source is nowhere; of a bad entry, where the target is too
abbrev pub pair : Bool → (ℕ → Option ℕ → Pair) → Option ℕ → Option ℕ → Option Pair
pair b side none t = none
pair b side (some s) (some t) = some (side s (some t))
pair true side (some s) none = none
pair false side (some s) none = some (side s none)

module _ (S : Session) (W : Walk) where
  -- both follow a message; both make the step
  abbrev pub read : (ℕ → Option ℕ → Pair) → ℕ → Option ℕ → ℕ → Option Pair
  read side s t m = pair W.entry side (S.pool.arc s m) (along S.pool t m)

  abbrev pub jump : ℕ → Option ℕ → Option Pair
  jump s t = pair W.entry after (follow S.pool (some s) W.out) (follow S.pool t W.into)

  -- the letters are the messages, and above them one more: the step itself
  abbrev pub go : Pair → ℕ → Option Pair
  go (before s t) m =
      elim (ltb m W.cut) [ true ↦ read before s t m | false ↦ elim (eqb m (messages S.model)) [ true ↦ jump s t | false ↦ none ] ]
  go (after s t) m =
      elim (ltb m W.cut) [ true ↦ none | false ↦ elim (ltb m (messages S.model)) [ true ↦ read after s t m | false ↦ none ] ]

  abbrev pub wrong : Pair → Bool
  wrong (before s t) = false
  wrong (after s t) = S.pool.final s && elim W.entry [ true ↦ is_final S.pool t | false ↦ not (is_final S.pool t) ]

  -- the contents that a word of letters stands for
  abbrev pub contents : List ℕ → List ℕ
  contents [] = []
  contents (m ∷ u) = elim (eqb m (messages S.model)) [ true ↦ W.out ++ contents u | false ↦ m ∷ contents u ]

  unfoldable pub walked : Pair → List (Entry Pair)
  walked root = explore (suc (messages S.model)) go same (root ∷ []) (most_pairs S.pool.states)

pub data Judged : Type 0 where
  passes : ℕ → Judged
  fails : List ℕ → Judged

abbrev pub reply : Session → Item → List ℕ → Reply
reply S start w = outside
reply S (step c t τ) w = leaves c t w (far_after S c τ w)
reply S (entry b e) w = bad b w

-- a local step has no pairs before it
abbrev pub root_pair : Action → ℕ → Option ℕ → Pair
root_pair local s t = after s t
root_pair (send q w) s t = before s t
root_pair (receive q w) s t = before s t

module _ (S : Session) where
  unfoldable pub look : Walk → List (Entry Pair) → Judged
  look W Q = elim (first_by (λ e. wrong S W e.at) Q) [ none ↦ passes (length Q) | some e ↦ fails (contents S W (reverse e.word)) ]

  abbrev pub step_walk : Action → Walk
  step_walk a = record { cut = cut S a; out = out a; into = into a; entry = false }

  abbrev pub entry_walk : Walk
  entry_walk = record { cut = 0; out = []; into = []; entry = true }

  -- the walks of a step and of a bad entry, from their control state's root
  abbrev pub begin_step : ℕ → Transition → ℕ → Begun
  begin_step c τ s = record { walk = step_walk τ.action; root = root_pair τ.action s (S.root (moved S.model c τ)) }

  abbrev pub begin_entry : ℕ × ℕ → ℕ → Begun
  begin_entry e s = record { walk = entry_walk; root = after s (some e.1) }

  abbrev pub walk_of : Item → Option Begun
  walk_of start = none
  walk_of (step c t τ) = map (begin_step c τ) (S.root c)
  walk_of (entry b e) = map (begin_entry e) (S.root e.0)

  -- without a walk nothing is visited, and nothing speaks against the item
  abbrev pub judge_walk : Option Begun → Judged
  judge_walk none = passes 0
  judge_walk (some B) = look B.walk (walked S B.walk B.root)

  unfoldable pub judge : Item → Judged
  judge start = elim (inside S (begin S.model)) [ true ↦ passes 0 | false ↦ fails (word S.model.starting) ]
  judge (step c t τ) = judge_walk (walk_of (step c t τ))
  judge (entry b e) = judge_walk (walk_of (entry b e))

  unfoldable pub decide : List Item → ℕ → Reply
  decide [] n = closed n
  decide (i ∷ is) n = elim (judge i) [ passes k ↦ decide is (n + k) | fails w ↦ reply S i w ]

  unfoldable pub verdict : Reply
  verdict = decide (items S) 0
