-- A session: a model, a pool, a root for each control state that has a set, and the bad entries; which configurations are inside, and which are listed
-- as bad. At the end, what the theorems need of a session.
use Rattle.std.specs.Prelude.{◌≡◌, Bool, true, false, List, [], ◌∷◌, ℕ, suc, ◌<◌, length, get_or}
use Rattle.std.proofs.Math.Option.{Option, some}
use Rattle.theory_exploration.specs.Mem.{Mem}
use Rattle.theory_model.specs.Model.{Action, local, send, receive, Transition, Model, Configuration, Between, Contents, first}
use Rattle.theory_model.specs.Diagram.{Pool, how_far, accepts, word}

pub record Session : Type 0 where
  pub model : Model
  pub pool : Pool
  pub root : ℕ → Option ℕ
  -- a control state and a root
  pub bad : List (ℕ × ℕ)

module _ (S : Session) where
  abbrev pub inside : Configuration → Bool
  inside γ = accepts S.pool (S.root γ.control) (word γ.queues)

  abbrev pub Inside : Configuration → Type 0
  Inside γ = inside γ ≡ true

  abbrev pub Outside : Configuration → Type 0
  Outside γ = inside γ ≡ false

  -- how far the contents are followed from the root of the control state
  abbrev pub how_far_in : Configuration → ℕ
  how_far_in γ = how_far S.pool (S.root γ.control) (word γ.queues)

  -- the configuration is of the entry's control state, and its contents lead from the entry's root to a final state
  abbrev pub Listed : ℕ × ℕ → Configuration → Type 0
  Listed e γ = (γ.control ≡ e.0) × (accepts S.pool (some e.1) (word γ.queues) ≡ true)

  abbrev pub ListedBad : Configuration → Type 0
  ListedBad γ = (e : ℕ × ℕ) × Mem e S.bad × Listed e γ

-- WHAT THE THEOREMS NEED of a session: a file that was read has it
-- a state for each machine
abbrev pub States : List ℕ → List ℕ → Type 0
States [] [] = Unit {0}
States [] (p ∷ ps) = ⊥
States (k ∷ ks) [] = ⊥
States (k ∷ ks) (p ∷ ps) = (p < k) × States ks ps

module _ (M : Model) where
  -- the word of an action is of messages of its queue
  abbrev pub OwnWord : Action → Type 0
  OwnWord local = Unit {0}
  OwnWord (send q w) = (q < length M.queues) × Between (first M q) (first M (suc q)) w
  OwnWord (receive q w) = (q < length M.queues) × Between (first M q) (first M (suc q)) w

pub record WellFormed (S : Session) : Type 0 where
  pub starts : States S.model.sizes S.model.starts
  pub starting : Contents S.model S.model.starting
  pub moves : (τ : Transition) → Mem τ S.model.transitions → τ.to < get_or S.model.sizes τ.machine 0
  pub words : (τ : Transition) → Mem τ S.model.transitions → OwnWord S.model τ.action
  pub arcs : (s m s' : ℕ) → S.pool.arc s m ≡ some s' → s' < S.pool.states
  pub roots : (c s : ℕ) → S.root c ≡ some s → s < S.pool.states
  pub entries : (c s : ℕ) → Mem (c, s) S.bad → s < S.pool.states
  -- the contents of a control state are in queue order: what its root accepts is the word of some queues
  pub ordered : (c : ℕ) (u : List ℕ) → accepts S.pool (S.root c) u ≡ true → (qs : List (List ℕ)) × Contents S.model qs × (word qs ≡ u)
