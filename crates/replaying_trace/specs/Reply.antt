-- THE SERVICE (document 02, change 2): the reply, the steps taken, the whole record and the whole queue memory, for every file, trace, memory and
-- record.
use Rattle.std.specs.Prelude.{ℕ, ◌*◌, ◌≡◌, Bool, true, false, List, length, leb, Result, Ok, Err}
use Rattle.numbers.specs.Limits.{most_bytes}
use Rattle.numbers.specs.Part.{Part, got, refused}
use Rattle.numbers.specs.Said.{number_of, place_of}
use Rattle.tables.specs.declared.tables.Tables.{Tables}
use Rattle.reading_file.specs.File.{read_file}
use Rattle.theory_files.specs.Tables.{session_of}
use Rattle.theory_replay.specs.Rules.{room, Why, end, outside, refusal, Ended}
use Rattle.theory_replay.specs.Replay.{replayed}
use Rattle.replaying_queues.specs.Laid.{memory_after}
use Rattle.replaying_step.specs.After.{record_after}
use Rattle.replaying_step.specs.declared.runs.RunRecord.{RunRecord}
use Rattle.replaying_trace.specs.declared.progress.Stop.{Stop}
use Rattle.replaying_trace.specs.declared.progress.Stop.TheVariants.{End, Outside, Unread, NotPossible, NoRoom}
use Rattle.replaying_trace.specs.declared.progress.ReplayRefusal.{ReplayRefusal}
use Rattle.replaying_trace.specs.declared.progress.ReplayRefusal.TheVariants.{File, TraceTooLong, MemoryShort}
use Rattle.replaying_trace.specs.declared.progress.Ended as Code
use Rattle.numbers.specs.Refusals.{too_long, short_memory, not_possible, queue_full}

-- what is answered: a refusal of the file, of the trace or of the memory, by its number and place; or why the replay ended
pub data Reply : Type 0 where
  file : ℕ → ℕ → Reply
  trace : ℕ → ℕ → Reply
  memory : ℕ → ℕ → Reply
  ran : Why → Reply

pub record Outcome : Type 0 where
  pub reply : Reply
  pub steps : ℕ
  pub lent : RunRecord
  pub queues : List ℕ

-- a refusal leaves record and memory as they were
abbrev pub turned_away : Reply → RunRecord → List ℕ → Outcome
turned_away x r mem = record { reply = x; steps = 0; lent = r; queues = mem }

-- a replay that ran leaves them in the form of the end
abbrev pub ran_to : Tables → List ℕ → Ended → Outcome
ran_to T mem e =
    record {
      reply = ran e.why;
      steps = e.steps;
      lent = record_after T.machines e.last;
      queues = memory_after e.last.queues mem;
    }

-- the file's refusals; then the trace's 1; then 2 for memory under `room` bytes a queue of the file
abbrev pub lent_to : Bool → Bool → Tables → List ℕ → List ℕ → RunRecord → Outcome
lent_to false enough T s mem r = turned_away (trace too_long most_bytes) r mem
lent_to true false T s mem r = turned_away (memory short_memory 0) r mem
lent_to true true T s mem r = ran_to T mem (replayed (session_of T) s)

abbrev pub replay_to : Part Tables → List ℕ → List ℕ → RunRecord → Outcome
replay_to (refused k p) s mem r = turned_away (file k p) r mem
replay_to (got T next) s mem r = lent_to (leb (length s) most_bytes) (leb (T.queues.count * room) (length mem)) T s mem r

-- THE REPLAY of trace s against a file, in memory mem and record r
unfoldable pub replay_of : List ℕ → List ℕ → List ℕ → RunRecord → Outcome
replay_of bytes s mem r = replay_to (read_file bytes) s mem r

-- why a replay ended, as the code says it: 14 and 15 are a step's
abbrev pub said_stop : Stop → Why
said_stop End = end
said_stop (Outside far) = outside far
said_stop (Unread why) = refusal (number_of why) (place_of why)
said_stop (NotPossible p) = refusal not_possible p
said_stop (NoRoom p) = refusal queue_full p

-- what the code's answer says: 1 is the trace's and 2 the memory's; and the steps taken, none where there was no replay
abbrev pub said_replay : Result Code.Ended ReplayRefusal → Reply
said_replay (Ok e) = ran (said_stop e.why)
said_replay (Err (File why)) = file (number_of why) (place_of why)
said_replay (Err TraceTooLong) = trace 1 most_bytes
said_replay (Err MemoryShort) = memory 2 0

abbrev pub steps_of : Result Code.Ended ReplayRefusal → ℕ
steps_of (Ok e) = e.steps
steps_of (Err why) = 0

-- WHAT A REPLAY PROMISES, with ₀ at entry and ₁ at exit
pub record Replays (bytes s mem₀ : List ℕ) (r₀ : RunRecord) (e : Result Code.Ended ReplayRefusal) (r₁ : RunRecord) (mem₁ : List ℕ) : Type 0 where
  pub reply : said_replay e ≡ (replay_of bytes s mem₀ r₀).reply
  pub steps : steps_of e ≡ (replay_of bytes s mem₀ r₀).steps
  pub lent : r₁ ≡ (replay_of bytes s mem₀ r₀).lent
  pub queues : mem₁ ≡ (replay_of bytes s mem₀ r₀).queues
