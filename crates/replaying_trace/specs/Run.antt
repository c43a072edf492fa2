-- What the functions under the service promise: a step, the loop over steps, and the record of the beginning.
use Rattle.std.specs.Prelude.{ℕ, ◌+◌, ◌-◌, ◌*◌, ◌≤◌, ◌≡◌, List, length, drop, Result, Ok, Err}
use Rattle.numbers.specs.Limits.{most_bytes}
use Rattle.reading_file.specs.Valid.{Valid}
use Rattle.tables.specs.declared.tables.Machines.{Machines}
use Rattle.tables.specs.declared.tables.Queues.{Queues}
use Rattle.tables.specs.declared.tables.Tables.{Tables}
use Rattle.tables.specs.declared.view.TablesView.{TablesView}
use Rattle.theory_model.specs.Model.{Configuration}
use Rattle.theory_files.specs.Tables.{session_of}
use Rattle.theory_replay.specs.Rules.{room, Ended}
use Rattle.theory_replay.specs.Replay.{Turn, stops, goes, turn, replay_from}
use Rattle.replaying_queues.specs.Laid.{memory_after}
use Rattle.replaying_queues.specs.Laying.{fronts}
use Rattle.replaying_step.specs.Configurations.{config_of, Holds}
use Rattle.replaying_step.specs.After.{record_after}
use Rattle.replaying_step.specs.Taking.{Stays}
use Rattle.replaying_step.specs.declared.runs.RunRecord.{RunRecord}
use Rattle.tables.specs.declared.head.Head.{Head}
use Rattle.tables.specs.Head.{head_of}
use Rattle.replaying_trace.specs.Tables.{view_without_bad}
use Rattle.replaying_trace.specs.Reply.{said_stop}
use Rattle.replaying_trace.specs.declared.progress.Stop.{Stop}
use Rattle.replaying_trace.specs.declared.progress.Progress.{Progress}
use Rattle.replaying_trace.specs.declared.progress.Ended as Code

-- a replay underway: the record, the queue memory, and how far it has come
pub record State : Type 0 where
  pub lent : RunRecord
  pub memory : List ℕ
  pub progress : Progress

abbrev pub state : RunRecord → List ℕ → Progress → State
state r mem p = record { lent = r; memory = mem; progress = p }

-- before the first step
abbrev pub opening : RunRecord → List ℕ → State
opening r mem = state r mem (record { at = 0; steps = 0 })

-- the configuration that record and memory stand for
abbrev pub stands : Head → State → Configuration
stands h x = config_of h.machines h.queues x.lent x.memory

-- WHAT A STEP ASKS of tables, trace and state
pub record Ready (T : Tables) (s : List ℕ) (x : State) : Type 0 where
  pub valid : Valid T
  pub holds : Holds T.machines T.queues x.lent x.memory
  pub most : length s ≤ most_bytes
  pub within : x.progress.at ≤ length s
  pub counted : x.progress.steps ≤ x.progress.at

-- the memory past the queues stays
pub record Kept (h : Head) (mem mem' : List ℕ) : Type 0 where
  pub past : drop (h.queues.count * room) mem' ≡ drop (h.queues.count * room) mem
  pub long : length mem' ≡ length mem

-- ONE STEP goes on: the configuration is the next one, and so is the place
pub record Gone (h : Head) (t : Turn) (x y : State) : Type 0 where
  pub turns : t ≡ goes (stands h y) y.progress.at
  pub steps : y.progress.steps ≡ x.progress.steps + 1
  pub holds : Holds h.machines h.queues y.lent y.memory
  pub kept : Kept h x.memory y.memory

-- or the replay stops, and record and memory stay
pub record Halts (t : Turn) (why : Stop) (x : State) (r : RunRecord) (mem : List ℕ) : Type 0 where
  pub turns : t ≡ stops (said_stop why)
  pub stays : Stays x.lent x.memory r mem

abbrev pub turned : Head → Turn → State → Result Progress Stop → RunRecord → List ℕ → Type 0
turned h t x (Ok p) r mem = Gone h t x (state r mem p)
turned h t x (Err why) r mem = Halts t why x r mem

pub record Stepped (v : TablesView) (s : List ℕ) (x : State) (a : Result Progress Stop) (r : RunRecord) (mem : List ℕ) : Type 0 where
  pub turned : turned (head_of (view_without_bad v)) (turn (session_of (view_without_bad v)) s x.progress.at (stands v.head x)) x a r mem

-- the replay has ended so, in the form of the end
pub record Final (h : Head) (e : Ended) (mem : List ℕ) (a : Code.Ended) (r' : RunRecord) (mem' : List ℕ) : Type 0 where
  pub why : said_stop a.why ≡ e.why
  pub steps : a.steps ≡ e.steps
  pub lent : r' ≡ record_after h.machines e.last
  pub memory : mem' ≡ memory_after e.last.queues mem

-- THE LOOP: all that is left of the trace
abbrev pub rest : Tables → List ℕ → State → Ended
rest T s x =
    replay_from (session_of T) s (length s - x.progress.steps) x.progress.steps x.progress.at (stands (head_of T) x)

abbrev pub Ran : Tables → List ℕ → RunRecord → List ℕ → Code.Ended → RunRecord → List ℕ → Type 0
Ran T s r mem a r' mem' = Final (head_of T) (rest T s (opening r mem)) mem a r' mem'

-- and underway from x to y
pub record Reached (T : Tables) (s : List ℕ) (x y : State) : Type 0 where
  pub ready : Ready T s y
  pub same : rest T s y ≡ rest T s x
  pub kept : Kept (head_of T) x.memory y.memory

-- the record of the start: starting states, and how much waits in each queue
abbrev pub starts_with : Machines → Queues → RunRecord
starts_with m q = record { states = m.starts; heads = fronts; lengths = q.lengths }
