-- A transition taken on the record and the queue memory.
use Rattle.std.specs.Prelude.{ℕ, ◌+◌, ◌*◌, ◌≤◌, ◌<◌, ◌≡◌, true, false, List, length, drop, Result, Ok, Err, ⊤}
use Rattle.std.proofs.Math.Option.{none, some}
use Rattle.tables.specs.Rows.{row_length, word_entry, kind_at, queue_at, length_at, word_at}
use Rattle.tables.specs.Valid.{MachinesValid, QueuesValid, TransitionsValid, ActionValid}
use Rattle.tables.specs.declared.tables.Queues.{Queues}
use Rattle.theory_model.specs.Model.{Action, send, receive, Configuration, act, take?}
use Rattle.theory_files.specs.Tables.{action_of}
use Rattle.theory_replay.specs.Rules.{room, fits}
use Rattle.replaying_step.specs.Parts.{transitions_of, model_in}
use Rattle.replaying_queues.specs.Ring.{rings}
use Rattle.replaying_step.specs.Configurations.{config_of, InRings, Holds}
use Rattle.tables.specs.declared.head.Head.{Head}
use Rattle.replaying_step.specs.declared.runs.RunRecord.{RunRecord}
use Rattle.replaying_step.specs.declared.taking.Untaken.{Untaken}
use Rattle.replaying_step.specs.declared.taking.Untaken.TheVariants.{NotPossible, NoRoom}

-- WHAT IS ASKED to take transition i: the tables were read, and record and memory hold a configuration
pub record Takeable (h : Head) (rows : List ℕ) (r : RunRecord) (mem : List ℕ) (i : ℕ) : Type 0 where
  pub machines : MachinesValid h.machines
  pub queues : QueuesValid h.queues
  pub transitions : TransitionsValid h.machines h.queues (transitions_of h rows)
  pub number : i < h.transitions
  pub holds : Holds h.machines h.queues r mem

-- whose these are
pub record TakeAsked (rows : List ℕ) (r : RunRecord) (mem : List ℕ) (i : ℕ) : Type 0 where
  pub head : Head
  pub takeable : Takeable head rows r mem i

-- WHAT A ROW DOES TO ITS QUEUE
-- what is asked: the row is of these queues, and heads, lengths and memory have their rings
pub record Shiftable (q : Queues) (rows : List ℕ) (row : ℕ) (hs ls mem : List ℕ) : Type 0 where
  pub queues : QueuesValid q
  pub action : ActionValid q (queue_at rows row) (length_at rows row) (word_entry row) rows
  pub within : row + row_length ≤ length rows
  pub ringed : InRings q hs ls
  pub enough : q.count * room ≤ length mem

pub record ShiftAsked (rows : List ℕ) (row : ℕ) (r : RunRecord) (mem : List ℕ) : Type 0 where
  pub queues : Queues
  pub shiftable : Shiftable queues rows row r.heads r.lengths mem

-- the action is possible, and leads to these rings; the memory past the queues stays
pub record Shifted (q : Queues) (a : Action) (hs ls mem hs' ls' mem' : List ℕ) : Type 0 where
  pub acted : act a (rings mem hs ls q.count) ≡ some (rings mem' hs' ls' q.count)
  pub ringed : InRings q hs' ls'
  pub past : drop (q.count * room) mem' ≡ drop (q.count * room) mem
  pub long : length mem' ≡ length mem

-- all stay
pub record Unshifted (hs ls mem hs' ls' mem' : List ℕ) : Type 0 where
  pub heads : hs' ≡ hs
  pub lengths : ls' ≡ ls
  pub memory : mem' ≡ mem

abbrev pub Shifts : Queues → Action → List ℕ → List ℕ → List ℕ → Result ⊤ Untaken → List ℕ → List ℕ → List ℕ → Type 0
Shifts q a hs ls mem (Ok _) hs' ls' mem' = Shifted q a hs ls mem hs' ls' mem'
Shifts q a hs ls mem (Err NotPossible) hs' ls' mem' = (act a (rings mem hs ls q.count) ≡ none) × Unshifted hs ls mem hs' ls' mem'
Shifts q a hs ls mem (Err NoRoom) hs' ls' mem' =
    ((qs : List (List ℕ)) × (act a (rings mem hs ls q.count) ≡ some qs) × (fits qs ≡ false)) × Unshifted hs ls mem hs' ls' mem'

-- what a function that performs an action finds, whichever queues the row is of: the machines' states stay; then the actions of a row
pub record Performs (a : Action) (rows : List ℕ) (row : ℕ) (r : RunRecord) (mem : List ℕ) (t : Result ⊤ Untaken) (r' : RunRecord) (mem' : List ℕ) : Type 0 where
  pub states : r'.states ≡ r.states
  pub shifts : (q : Queues) → Shiftable q rows row r.heads r.lengths mem → Shifts q a r.heads r.lengths mem t r'.heads r'.lengths mem'

abbrev pub Sends : List ℕ → ℕ → RunRecord → List ℕ → Result ⊤ Untaken → RunRecord → List ℕ → Type 0
Sends rows row r mem t r' mem' = Performs (send (queue_at rows row) (word_at rows row)) rows row r mem t r' mem' × (r'.heads ≡ r.heads)

abbrev pub Receives : List ℕ → ℕ → RunRecord → List ℕ → Result ⊤ Untaken → RunRecord → Type 0
Receives rows row r mem t r' = Performs (receive (queue_at rows row) (word_at rows row)) rows row r mem t r' mem

abbrev pub Acts : List ℕ → ℕ → RunRecord → List ℕ → Result ⊤ Untaken → RunRecord → List ℕ → Type 0
Acts rows row r mem t r' mem' = Performs (action_of (kind_at rows row) (queue_at rows row) (word_at rows row)) rows row r mem t r' mem'

-- WHAT IS FOUND OF A TRANSITION
-- the step is taken, and the memory past the queues stays
pub record Moves (h : Head) (rows : List ℕ) (i : ℕ) (r : RunRecord) (mem : List ℕ) (r' : RunRecord) (mem' : List ℕ) : Type 0 where
  pub taken : take? (model_in h rows) i (config_of h.machines h.queues r mem) ≡ some (config_of h.machines h.queues r' mem')
  pub fitting : fits (config_of h.machines h.queues r' mem').queues ≡ true
  pub holds : Holds h.machines h.queues r' mem'
  pub past : drop (h.queues.count * room) mem' ≡ drop (h.queues.count * room) mem
  pub long : length mem' ≡ length mem

-- not possible, or a queue would pass its room: record and memory stay
pub record Stays (r : RunRecord) (mem : List ℕ) (r' : RunRecord) (mem' : List ℕ) : Type 0 where
  pub same : r' ≡ r
  pub kept : mem' ≡ mem

abbrev pub Takes : Head → List ℕ → ℕ → RunRecord → List ℕ → Result ⊤ Untaken → RunRecord → List ℕ → Type 0
Takes h rows i r mem (Ok _) r' mem' = Moves h rows i r mem r' mem'
Takes h rows i r mem (Err NotPossible) r' mem' =
    (take? (model_in h rows) i (config_of h.machines h.queues r mem) ≡ none) × Stays r mem r' mem'
Takes h rows i r mem (Err NoRoom) r' mem' =
    ((γ : Configuration) × (take? (model_in h rows) i (config_of h.machines h.queues r mem) ≡ some γ) × (fits γ.queues ≡ false))
    × Stays r mem r' mem'

-- what taking finds, whichever head the tables have
abbrev pub Tries : List ℕ → ℕ → RunRecord → List ℕ → Result ⊤ Untaken → RunRecord → List ℕ → Type 0
Tries rows i r mem t r' mem' = (h : Head) → Takeable h rows r mem i → Takes h rows i r mem t r' mem'
