-- The fourteen lettered cases of document 01, "What the program prints", as one list with one claim about it: files in hex, and the lines
-- printed for them; and further ones, in the same form. At the end, what shuts out each of the worthless versions.
use Rattle.std.specs.Prelude.{ℕ, ◌+◌, ◌-◌, ◌*◌, ◌≡◌, refl, Bool, true, false, List, [], ◌∷◌, ◌++◌, map, ltb}
use Prim.Native.Char.{code}
use Prim.Native.String.{String}
use Prim.Native.String as Text
use Rattle.theory_exploration.specs.Explore.{explore, rounds, expand, fresh, starts, children_from}
use Rattle.numbers.specs.Part.{Part, got, refused}
use Rattle.numbers.specs.Number.{read_number, read_within, read_below, read_two}
use Rattle.reading_model.specs.Machines.{read_factor, read_sizes, read_starts, counted_machines, read_machines}
use Rattle.reading_model.specs.Words.{read_message, read_word}
use Rattle.reading_model.specs.Queues.{read_term, read_counts, counted_queues, read_content, read_contents, read_starting, read_queues}
use Rattle.tables.specs.Starting.{waits}
use Rattle.tables.specs.Queues.{first_message}
use Rattle.reading_model.specs.Transitions.{read_action, read_transition, read_rows, read_transitions}
use Rattle.reading_pool.specs.Pool.{read_ascending, read_arc, read_arcs, read_state, read_states, read_pool}
use Rattle.theory_exploration.specs.Growing.{gather}
use Rattle.reading_order.specs.Nodes.{queue_nodes}
use Rattle.reading_order.specs.Search.{reached, none_fails, in_queue_order}
use Rattle.reading_file.specs.Map.{read_roots, read_map}
use Rattle.reading_file.specs.Bad.{read_entries, read_bad}
use Rattle.reading_model.specs.Model.{read_model}
use Rattle.reading_file.specs.Sets.{read_sets}
use Rattle.reading_file.specs.Ends.{read_ends}
use Rattle.reading_file.specs.File.{read_with, read_file}
use Rattle.tables.specs.declared.tables.Tables.{Tables}
use Rattle.theory_model.specs.Model.{run}
use Rattle.theory_model.specs.Session.{inside}
use Rattle.theory_model.specs.Verdict.{closed, leaves}
use Rattle.theory_model.specs.Judge.{verdict as judged, decide, judge, far_after, look, walked}
use Rattle.theory_model.specs.Line.{line, refused_line, digits, spaced_all}
use Rattle.theory_files.specs.Tables.{session_of}
use Rattle.theory_files.specs.Reply.{verdict, reply_of, line_of}

-- a text as bytes
abbrev pub text : String → List ℕ
text Text.[] = []
text (Text.◌∷◌ c s) = code c ∷ text s

-- bytes in hex: two digits for each, with a space between one and the next
abbrev pub digit : ℕ → ℕ
digit c = elim (ltb c 58) [ true ↦ c - 48 | false ↦ c - 87 ]

abbrev pub pairs : List ℕ → List ℕ
pairs [] = []
pairs (a ∷ []) = []
pairs (a ∷ b ∷ []) = (16 * digit a + digit b) ∷ []
pairs (a ∷ b ∷ c ∷ s) = (16 * digit a + digit b) ∷ pairs s

abbrev pub hex : String → List ℕ
hex s = pairs (text s)

pub record Case : Type 0 where
  pub letter : String
  pub file : List ℕ
  pub printed : List ℕ

abbrev case : String → List ℕ → String → Case
case letter file printed = record { letter = letter; file = file; printed = text printed }

-- file R, with another first number, pool or last field; and file S, with another transition or pool
abbrev pub file_r : String → String → String → List ℕ
file_r first pool last =
    hex first ++ (hex "01 01 00 00 01 01 02 00 00 00 01 00 01 00 01 00 00 02 00 01 00" ++ (hex pool ++ (hex "01" ++ hex last)))

abbrev pub file_s : String → String → List ℕ
file_s transition pool = hex "01 01 00 02 01 01 01" ++ (hex transition ++ (hex pool ++ hex "01 00"))

abbrev pub pool_r : String
pool_r = "01 01 01 00 00"

abbrev pub pool_s : String
pool_s = "02 01 02 00 00 01 01 01 01 01 01"

abbrev pub send_s : String
send_s = "00 00 00 01 00 01 00"

r_is : file_r "02" pool_r "00" ≡ hex "02 01 01 00 00 01 01 02 00 00 00 01 00 01 00 01 00 00 02 00 01 00 01 01 01 00 00 01 00"
r_is = refl

s_is : file_s send_s pool_s ≡ hex "01 01 00 02 01 01 01 00 00 00 01 00 01 00 02 01 02 00 00 01 01 01 01 01 01 01 00"
s_is = refl

-- THE FOURTEEN LETTERED CASES, j as document 02, change 8 has it
abbrev pub cases : List Case
cases =
    case "a" (file_r "02" pool_r "00") "closed 4\n"
    ∷ case "b" (file_r "02" "01 01 00" "00") "leaves 0 0 0 0:\n"
    ∷ case "c" (file_r "02" "02 01 01 00 01 01 00" "00") "leaves 0 0 1 1: 0\n"
    ∷ case "d" (file_r "02" "01 00 01 00 00" "00") "outside\n"
    ∷ case "e" (file_r "02" pool_r "01 00 00") "bad 0 0:\n"
    ∷ case "f" (file_s send_s pool_s) "closed 3\n"
    ∷ case "g" (file_s "00 00 00 02 01 01 01" pool_s) "closed 3\n"
    ∷ case "h" (hex "") "refused 3 at 0\n"
    ∷ case "i" (file_r "82 00" pool_r "00") "refused 4 at 0\n"
    ∷ case "j" (file_r "05" pool_r "00") "refused 5 at 2\n"
    ∷ case "k" (file_r "02" pool_r "00 00") "refused 10 at 29\n"
    ∷ case "l" (file_r "02" pool_r "") "refused 3 at 28\n"
    ∷ case "m" (file_s send_s "01 01 02 00 00 01 00") "refused 9 at 23\n"
    ∷ case "n" (hex "03 10 10 02") "refused 6 at 3\n"
    ∷ []

-- a local step that stays, then a send that leaves
abbrev pub second_leaves : List ℕ
second_leaves = hex "01 01 00 01 01 02 00 00 00 00 00 00 00 01 00 01 00 01 01 00 01 00"

-- One machine of four states over two queues, with messages 0 and 1, 2 and 3: at state 1 it sends 3 to queue 1 and goes to 2, or sends 1 to queue
-- 0 and goes to 3. The pool has the sets of the words -, 0 2, 0 2 3 and 0 1 2, from states 0, 1, 3 and 6; with these roots and last field.
abbrev file_q : String → String → List ℕ
file_q roots last =
    hex "01 04 00 02 02 02 02 00 01 02 01 01 01 03 00 01 03 01 00 01 01"
    ++ (hex "08 01 00 00 01 00 02 00 01 02 00 00 01 00 04 00 01 02 05 00 01 03 00 00 01 00 07 00 01 01 02" ++ (hex roots ++ hex last))

-- Two machines of two states: machine 0 goes from 0 to 1 and sends 0 1 0, machine 1 goes from 0 to 1 and receives a word. The sets of control
-- states 0, 2 and 3 are the words -, 0 1 0 and -.
abbrev file_h : String → List ℕ
file_h received =
    hex "02 02 02 00 00 01 02 02 00 00 01 01 00 03 00 01 00 01 00 01 02 00"
    ++ (hex received ++ hex "04 01 00 00 01 00 02 00 01 01 03 00 01 00 00 01 00 02 01 00")

-- One machine that sends or receives sixteen times 0. The set is every fifth number of 0s.
abbrev file_w : String → List ℕ
file_w kind =
    hex "01 01 00 01 01 01 00 00 00"
    ++ (hex kind ++ hex "00 10 00 00 00 00 00 00 00 00 00 00 00 00 00 00 00 00 05 01 01 00 01 00 01 00 02 00 01 00 03 00 01 00 04 00 01 00 00 01 00")

-- One machine over two queues, with messages 0 and 1, and 2, sends 1 1 to queue 0. Contents 0 2 become 0 1 1 2; the target's states along these are
-- given, and the one that they end in is not final.
abbrev file_f : String → List ℕ
file_f along =
    hex "01 02 00 02 02 01 01 00 00 01 01 00 02 01 01 0a 01 01 00 01 00 01 02 02 01 00" ++ (hex along ++ hex "00 00 00 01 01 09 01 00 01 04 00")

-- R that resumes: with this first number, starting contents and pool; and S, with this first number and starting contents
abbrev resumed_r : String → String → String → List ℕ
resumed_r first waiting pool =
    hex first ++ (hex "01 01 00 00 01 01" ++ (hex waiting ++ (hex "02 00 00 00 01 00 01 00 01 00 00 02 00 01 00" ++ (hex pool ++ hex "01 00"))))

abbrev pub resumed_s : String → String → List ℕ
resumed_s first waiting = hex first ++ (hex "01 00 02 01 01" ++ (hex waiting ++ (hex "01" ++ (hex send_s ++ (hex pool_s ++ hex "01 00")))))

-- any number of messages but none
abbrev pub some_r : String
some_r = "02 00 01 00 01 01 01 00 01"

-- FURTHER CASES: machines of two states and more, longer words, two queues. With each stands what would print another line.
abbrev pub further_cases : List Case
further_cases =
    -- a product of 256 refused
    case "product" (hex "02 10 10") "refused 3 at 3\n"
    -- a second step waved through
    ∷ case "second" second_leaves "leaves 0 1 0 0:\n"
    -- a machine goes from 0 to 1 and sends 0; the sets are - and 0: from and to exchanged; a root taken for 1 more than it is
    ∷ case "from" (hex "01 02 00 01 01 01 00 00 01 01 00 01 00 02 01 00 00 01 00 00 01 02 00") "closed 2\n"
    -- machines of 2 and 3 states at (0, 2), and transition 1 leads to (1, 2): control states numbered with machine 0 least significant; from and
    -- to exchanged
    ∷ case "controls" (hex "02 02 03 00 02 01 01 02 01 00 01 00 00 00 01 01 00 01 00 01 01 00 00 00 01 00 00 01 00") "leaves 2 1 0 0:\n"
    -- a local step from (1, 0) to (0, 0), in machines of two states: the same
    ∷ case "local" (hex "02 02 02 01 00 01 02 01 00 01 00 00 04 01 00 00 01 00 02 00 01 01 03 00 01 00 00 02 02 01 00 00") "leaves 2 0 0 0:\n"
    -- 2 3 3 4 is sent to queue 1, then 2 3 received: either word reversed; a receive from the queue's end; sends and receives exchanged
    ∷ case "word"
    (hex "01 03 00 02 02 03 02 00 00 01 01 01 04 02 03 03 04 00 01 02 02 01 02 02 03 06 01 00 00 01 02 02 00 01 03 03 00 01 03 04 00 01 04 05 01 00 01 02 04 00")
    "closed 6\n"
    -- a message of queue 1 put at the end of queue 0; a send to a queue's front
    ∷ case "queues" (file_q "01 02 04 07" "00") "closed 11\n"
    -- control state 3 has no root: a target that has nowhere to go dropped
    ∷ case "nowhere" (file_q "01 02 04 00" "00") "leaves 1 1 2 0: 0 2\n"
    -- entry 0 is of control state 0, entry 1 of 1, both with pool state 1 for root: a bad entry's root taken for 1 less than it is
    ∷ case "bad" (file_q "01 02 04 07" "02 00 01 01 01") "bad 1 2: 0 2\n"
    -- machine 1 receives what machine 0 sent: a receive from the queue's end; control states numbered the other way round
    ∷ case "received" (file_h "03 00 01 00") "closed 5\n"
    -- machine 1 receives 0 1 alone: the word reversed; a receive from the queue's end
    ∷ case "part" (file_h "02 00 01") "leaves 2 1 3 0: 0 1 0\n"
    -- a word of sixteen sent, and received: its last message left out; its length taken for 0
    ∷ case "sixteen sent" (file_w "01") "leaves 0 0 0 16:\n"
    ∷ case "sixteen received" (file_w "02") "leaves 0 0 20 4: 0 0 0 0 0 0 0 0 0 0 0 0 0 0 0 0 0 0 0 0\n"
    -- lost at the first message, before the word, in it, behind it, and nowhere: F counted before the step, in the source, or one off
    ∷ case "lost at 0" (file_f "00 01 01 08 00 01 01 05 00 01 01 06 00 01 02 07") "leaves 0 0 2 0: 0 2\n"
    ∷ case "lost at 1" (file_f "00 02 00 04 01 08 00 00 00 01 01 06 00 01 02 07") "leaves 0 0 2 1: 0 2\n"
    ∷ case "lost at 2" (file_f "00 02 00 04 01 08 00 01 01 05 00 00 00 01 02 07") "leaves 0 0 2 2: 0 2\n"
    ∷ case "lost at 3" (file_f "00 02 00 04 01 08 00 01 01 05 00 01 01 06 00 00") "leaves 0 0 2 3: 0 2\n"
    ∷ case "not accepted" (file_f "00 02 00 04 01 08 00 01 01 05 00 01 01 06 00 01 02 07") "leaves 0 0 2 4: 0 2\n"
    -- a word of seventeen taken
    ∷ case "seventeen" (hex "01 01 00 01 01 01 00 00 00 01 00 11") "refused 5 at 11\n"
    -- a starting state that is as much as its machine's states taken; a state of machine 0 held to the states of machine 1
    ∷ case "start" (hex "02 02 03 00 03") "refused 5 at 4\n"
    ∷ case "to" (hex "02 02 03 00 00 01 01 01 00 01 02") "refused 5 at 10\n"
    -- a message that is not below the sum told by 7; one of the queue before taken, or of the queue after
    ∷ case "message" (hex "01 01 00 02 02 02 01 00 00 00 01 01 02 02 04") "refused 5 at 14\n"
    ∷ case "before" (hex "01 01 00 02 02 02 01 00 00 00 01 01 02 02 01") "refused 7 at 14\n"
    ∷ case "after" (hex "01 01 00 02 02 02 01 00 00 00 02 00 02 00 02") "refused 7 at 14\n"
    -- the same message twice in a state taken
    ∷ case "twice" (hex "01 01 00 01 02 00 01 01 02 01 00 01 00") "refused 8 at 11\n"
    -- a root of the map past 1 plus the last state taken; a bad entry's root with the 1 added taken
    ∷ case "root" (hex "01 01 00 01 01 00 01 01 00 02 00") "refused 5 at 9\n"
    ∷ case "entry" (hex "01 01 00 01 01 00 01 01 00 01 01 00 01") "refused 5 at 12\n"
    -- a sum of 33 taken; a second byte of 128 taken
    ∷ case "sum" (hex "01 01 00 02 20 01") "refused 6 at 5\n"
    ∷ case "second byte" (hex "01 01 00 01 81 80") "refused 4 at 4\n"
    -- S with a state out of order that no root leads to, and with one from which no final state is reached: either refused
    ∷ case "unused" (file_s send_s "03 01 02 00 00 01 01 01 01 01 01 01 02 00 02 01 02") "closed 3\n"
    ∷ case "dead" (file_s send_s "03 01 02 00 00 01 01 01 02 00 02 01 01 00 02 00 02 01 02") "closed 3\n"
    -- message 1 and then 0 of the same queue refused
    ∷ case "same queue" (hex "01 01 00 01 02 00 01 01 02 00 00 01 00 01 00") "closed 0\n"
    -- 1 0 is accepted from a bad entry's root alone, at a control state without a root: bad entries passed over
    ∷ case "bad root" (hex "01 01 00 02 01 01 00 01 01 02 00 00 01 00 00 01 00 00") "refused 9 at 18\n"
    -- 1 0 leads back to the root, the only final state; and 1 2 0 over three queues
    ∷ case "back" (hex "01 01 00 02 01 01 00 02 01 01 01 01 00 01 00 00 01 00") "refused 9 at 18\n"
    ∷ case "apart" (hex "01 01 00 03 01 01 01 00 04 00 01 01 01 00 01 02 02 00 01 00 03 01 00 01 00") "refused 9 at 25\n"
    -- the pool of case m with a byte too many, and with a root past its state: 10 before 9; 9 before field 5
    ∷ case "more" (file_s send_s "01 01 02 00 00 01 00" ++ hex "00") "refused 9 at 23\n"
    ∷ case "field 5" (hex "01 01 00 02 01 01 00 01 01 02 00 00 01 00 02 00") "refused 5 at 14\n"
    -- a message waits at the start: starting contents dropped at the start; taken for part of field 3
    ∷ case "resumed" (resumed_r "06" "01 00" pool_r) "closed 4\n"
    ∷ case "resumed outside" (resumed_r "06" "01 00" "01 01 00") "outside\n"
    ∷ case "resumed inside" (resumed_r "06" "03 00 00 00" some_r) "leaves 0 1 1 0: 0\n"
    ∷ case "not resumed" (file_r "02" some_r "00") "outside\n"
    -- both queues start with a message: queues exchanged
    ∷ case "resumed queues" (resumed_s "05" "01 00 01 01") "closed 3\n"
    ∷ case "resumed eight" (resumed_s "05" "08 00 00 00 00 00 00 00 00 00") "closed 3\n"
    -- a message of the queue after, and of the queue before; one that is not below the sum; a length of nine
    ∷ case "waits after" (resumed_s "05" "01 01 01 01") "refused 7 at 7\n"
    ∷ case "waits before" (resumed_s "05" "01 00 01 00") "refused 7 at 9\n"
    ∷ case "waits past" (resumed_s "05" "01 02 01 01") "refused 5 at 7\n"
    ∷ case "waits nine" (resumed_s "05" "09") "refused 5 at 6\n"
    -- all queues start empty: taken; told before all are read; told by another place, or after field 3
    ∷ case "waits nothing" (resumed_r "06" "00" pool_r) "refused 23 at 0\n"
    ∷ case "nothing so far" (hex "05 01 00 02 01 01 00") "refused 3 at 7\n"
    ∷ case "nothing at all" (hex "05 01 00 02 01 01 00 00") "refused 23 at 0\n"
    -- first numbers past both forms
    ∷ case "first 0" (file_r "00" pool_r "00") "refused 5 at 0\n"
    ∷ case "first 9" (file_r "09" pool_r "00") "refused 5 at 0\n"
    ∷ []

-- what is claimed of a list of cases
abbrev pub Printed : List Case → Type 0
Printed cs = map (λ c. line_of (reply_of c.file)) cs ≡ map (λ c. c.printed) cs

-- of each configuration of a run: is it inside? A file that is refused has no run
abbrev pub insides_to : Part Tables → List ℕ → List Bool
insides_to (got T next) ts = map (inside (session_of T)) (run (session_of T).model ts)
insides_to (refused k p) ts = []

abbrev pub insides : List ℕ → List ℕ → List Bool
insides s ts = insides_to (read_file s) ts

-- the files of cases a, b, c and f
abbrev pub case_a : List ℕ
case_a = file_r "02" pool_r "00"

abbrev pub case_b : List ℕ
case_b = file_r "02" "01 01 00" "00"

abbrev pub case_c : List ℕ
case_c = file_r "02" "02 01 01 00 01 01 00" "00"

abbrev pub case_f : List ℕ
case_f = file_s send_s pool_s

pub record Computed : Type 0 where
  -- THE ONE CLAIM about the lettered cases
  pub lettered : Printed cases
  pub further : Printed further_cases
  pub a : reply_of case_a ≡ verdict (closed 4)
  pub b : reply_of case_b ≡ verdict (leaves 0 0 [] 0)
  pub b_run : insides case_b (0 ∷ []) ≡ true ∷ false ∷ []
  pub c : reply_of case_c ≡ verdict (leaves 0 0 (0 ∷ []) 1)
  pub f : reply_of case_f ≡ verdict (closed 3)
  pub second : reply_of second_leaves ≡ verdict (leaves 0 1 [] 0)
  pub second_run : insides second_leaves (1 ∷ []) ≡ true ∷ false ∷ []

pub computed : Computed
unfolding
    reply_of read_file read_with read_model read_ends read_sets
    read_number read_within read_below read_two
    read_factor read_sizes read_starts counted_machines read_machines
    read_term read_counts counted_queues read_content read_contents read_starting read_queues waits first_message
    read_message read_word read_action read_transition read_rows read_transitions
    read_ascending read_arc read_arcs read_state read_states read_pool
    gather queue_nodes reached none_fails in_queue_order
    read_roots read_map read_entries read_bad
    judged decide judge far_after look walked explore rounds expand fresh starts children_from
    line refused_line digits spaced_all
computed =
    record { lettered = refl; further = refl; a = refl; b = refl; b_run = refl; c = refl; f = refl; second = refl; second_run = refl }

-- the fourteen lettered cases, and the further ones
pub as_printed : Printed cases
as_printed = computed.lettered

pub further_as_printed : Printed further_cases
further_as_printed = computed.further

-- WORTHLESS VERSIONS, and what shuts them out (laws of Laws.Worthless)
--
-- refuses every file                       demand 2 on case a             not_every_file_refused
-- says closed to every file                demand 2 on case b             b_not_closed
--                                          demand 3, the run of 0         b_run_not_closed
-- returns without touching what is lent    case c                         c_touches
-- checks the first step alone              demand 2 on second_leaves      second_not_closed
--                                          demand 3, the run of 1         second_run_not_closed
-- an invented number of pairs              demand 3 and demand 2, case f  f_three, f_run_three
