-- The model (source document 000, section 2, by its prose): machines and queues, control states, configurations, a step, a run.
use Rattle.std.specs.Prelude.{Bool, true, false, List, [], ◌∷◌, ◌++◌, ℕ, zero, suc, ◌+◌, ◌-◌, ◌*◌, ◌/◌, ◌%◌, ◌≤◌, ◌<◌, get_or, set, eqb, ltb}
use Rattle.std.proofs.Math.Option.{Option, none, some, map}
use Rattle.std.proofs.Math.ListN.{get_elem?}

pub data Action : Type 0 where
  local : Action
  -- a word to the end of a queue
  send : ℕ → List ℕ → Action
  -- a word from the front of a queue
  receive : ℕ → List ℕ → Action

pub record Transition : Type 0 where
  pub machine : ℕ
  pub from : ℕ
  pub to : ℕ
  pub action : Action

pub record Model : Type 0 where
  -- for each machine how many states it has, and its starting state
  pub sizes : List ℕ
  pub starts : List ℕ
  -- for each queue how many messages it has, and what waits in it at the start (document 02, change 8)
  pub queues : List ℕ
  pub starting : List (List ℕ)
  pub transitions : List Transition

-- CONTROL STATES are numbered with machine 0 most significant
abbrev pub sizes_product : List ℕ → ℕ
sizes_product [] = 1
sizes_product (k ∷ ks) = k * sizes_product ks

abbrev pub number : List ℕ → List ℕ → ℕ
number [] ps = 0
number (k ∷ ks) [] = 0
number (k ∷ ks) (p ∷ ps) = p * sizes_product ks + number ks ps

-- and back: each machine's state
abbrev pub places : List ℕ → ℕ → List ℕ
places [] c = []
places (k ∷ ks) c = (c / sizes_product ks) ∷ places ks (c % sizes_product ks)

-- MESSAGES are numbered through the queues: the first of queue q comes after all of the queues before it
abbrev pub first_of : List ℕ → ℕ → ℕ
first_of [] q = 0
first_of (n ∷ ns) zero = 0
first_of (n ∷ ns) (suc q) = n + first_of ns q

abbrev pub total : List ℕ → ℕ
total [] = 0
total (n ∷ ns) = n + total ns

-- the queue that a message belongs to
abbrev pub queue_of : List ℕ → ℕ → ℕ
queue_of [] m = 0
queue_of (n ∷ ns) m = elim (ltb m n) [ true ↦ 0 | false ↦ suc (queue_of ns (m - n)) ]

-- a word of messages from lo on and below hi
pub data Between (lo hi : ℕ) : List ℕ → Type 0 where
  nothing : Between lo hi []
  message : {m : ℕ} {u : List ℕ} → lo ≤ m → m < hi → Between lo hi u → Between lo hi (m ∷ u)

-- each queue has messages of its own, the first queue from k on
pub data Own : ℕ → List ℕ → List (List ℕ) → Type 0 where
  none_left : {k : ℕ} → Own k [] []
  queue : {k n : ℕ} {ns q : List ℕ} {qs : List (List ℕ)} → Between k (k + n) q → Own (k + n) ns qs → Own k (n ∷ ns) (q ∷ qs)

pub record Configuration : Type 0 where
  pub control : ℕ
  pub queues : List (List ℕ)

-- what is left of a queue that begins with the word
abbrev pub strip : List ℕ → List ℕ → Option (List ℕ)
strip [] q = some q
strip (m ∷ w) [] = none
strip (m ∷ w) (n ∷ q) = elim (eqb m n) [ true ↦ strip w q | false ↦ none ]

-- the queues after an action, if it is possible
abbrev pub act : Action → List (List ℕ) → Option (List (List ℕ))
act local qs = some qs
act (send q w) qs = some (set qs q (get_or qs q [] ++ w))
act (receive q w) qs = map (λ rest. set qs q rest) (strip w (get_or qs q []))

module _ (M : Model) where
  -- how many control states; how many messages; the first message of queue q
  abbrev pub controls : ℕ
  controls = sizes_product M.sizes

  abbrev pub messages : ℕ
  messages = total M.queues

  abbrev pub first : ℕ → ℕ
  first q = first_of M.queues q

  abbrev pub Contents : List (List ℕ) → Type 0
  Contents qs = Own 0 M.queues qs

  -- a configuration of the model: a control state, and in each queue messages of its own
  abbrev pub IsConfiguration : Configuration → Type 0
  IsConfiguration γ = (γ.control < controls) × Contents γ.queues

  -- is the machine of the transition in its from-state?
  abbrev pub is_at : ℕ → Transition → Bool
  is_at c τ = eqb (get_or (places M.sizes c) τ.machine 0) τ.from

  -- the control state that it leads to: no other machine moves
  abbrev pub moved : ℕ → Transition → ℕ
  moved c τ = number M.sizes (set (places M.sizes c) τ.machine τ.to)

  abbrev pub takes : Transition → Configuration → Option Configuration
  takes τ γ =
      elim (is_at γ.control τ)
      [ true ↦ map (λ qs. record { control = moved γ.control τ; queues = qs }) (act τ.action γ.queues) | false ↦ none ]

  -- THE STEP of transition number t
  abbrev pub take? : ℕ → Configuration → Option Configuration
  take? t γ = elim (get_elem? M.transitions t) [ some τ ↦ takes τ γ | none ↦ none ]

  -- a number whose transition is not taken, or that is no transition, changes nothing
  abbrev pub next : ℕ → Configuration → Configuration
  next t γ = elim (take? t γ) [ some γ' ↦ γ' | none ↦ γ ]

  -- THE RUN fed a list of numbers: its configurations, the first included. At the start the machines are in their starting states, and in the queues waits what the model says
  abbrev pub begin : Configuration
  begin = record { control = number M.sizes M.starts; queues = M.starting }

  abbrev pub run_from : Configuration → List ℕ → List Configuration
  run_from γ [] = γ ∷ []
  run_from γ (t ∷ ts) = γ ∷ run_from (next t γ) ts

  abbrev pub run : List ℕ → List Configuration
  run ts = run_from begin ts
