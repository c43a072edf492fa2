-- What a replay tells, and the record of its run as twelve numbers.
use Rattle.std.specs.Prelude.{ℕ, ◌+◌, ◌*◌, List, ◌++◌, drop, replicate}
use Rattle.tables.specs.Limits.{most_machines, most_queues}
use Rattle.theory_replay.specs.Rules.{end, outside, refusal}
use Rattle.replaying_step.specs.declared.runs.RunRecord.{RunRecord}
use Rattle.replaying_trace.specs.Reply.{Reply, file, trace, memory, ran}
use Rattle.c_replies.specs.Told.{told_of, told_refusal}
use Rattle.c_replies.specs.declared.told.Told.{Told}

-- the kinds
abbrev pub END : ℕ
END = 9

abbrev pub LEFT : ℕ
LEFT = 10

abbrev pub STEP_REFUSED : ℕ
STEP_REFUSED = 11

abbrev pub TRACE_REFUSED : ℕ
TRACE_REFUSED = 12

abbrev pub MEMORY_REFUSED : ℕ
MEMORY_REFUSED = 13

-- the steps taken, and outside the map how many messages are followed; after a refused step its number and its place in the trace come before them
abbrev pub told_replay : Reply → ℕ → Told
told_replay (ran end) n = told_of END n 0 0 0
told_replay (ran (outside far)) n = told_of LEFT n far 0 0
told_replay (ran (refusal k p)) n = told_of STEP_REFUSED k p n 0
told_replay (file k p) n = told_refusal k p
told_replay (trace k p) n = told_of TRACE_REFUSED k p 0 0
told_replay (memory k p) n = told_of MEMORY_REFUSED k p 0 0

-- each machine's state, each queue's head, each queue's length
abbrev pub record_out : RunRecord → List ℕ
record_out r = r.states ++ r.heads ++ r.lengths

abbrev pub record_least : ℕ
record_least = most_machines + 2 * most_queues

-- the record's space at exit: the numbers fill its front; after a refusal of file, trace or memory it is as it was
abbrev pub run_after : Reply → RunRecord → List ℕ → List ℕ
run_after (ran w) r space = record_out r ++ drop record_least space
run_after (file k p) r space = space
run_after (trace k p) r space = space
run_after (memory k p) r space = space

-- a call begins from a record of 0: what it was lent does not matter
abbrev pub blank : RunRecord
blank = record { states = replicate most_machines 0; heads = replicate most_queues 0; lengths = replicate most_queues 0 }
