-- WHY A FILE IS REFUSED BY 3 TO 8 AND BY 23 (document 01, "When a file or a question is turned away"; document 02, change 8): the field that reading has come to, the
-- number that stands there, and what it breaks. `Laws.Causes.refusal_cause` is the theorem.
use Rattle.std.specs.Prelude.{ℕ, suc, ◌+◌, ◌*◌, ◌≤◌, ◌<◌, ◌≡◌, ◌⊎◌, Bool, true, List, length, get_or, replicate}
use Rattle.std.proofs.Math.Option.{Option, none, some}
use Rattle.tables.specs.Limits.{most_machines, most_states, most_controls, most_queues, most_messages, most_starting, most_transitions, most_word, most_pool, most_bad}
use Rattle.numbers.specs.Part.{got}
use Rattle.numbers.specs.Number.{read_number, read_within, read_below, read_two}
use Rattle.reading_model.specs.Machines.{read_sizes, read_starts, most_first, machines_by, read_machines}
use Rattle.reading_model.specs.Queues.{read_counts, counted_queues, read_contents, read_queues}
use Rattle.tables.specs.Starting.{starting_length}
use Rattle.tables.specs.Queues.{first_message, OfQueue}
use Rattle.reading_model.specs.Words.{read_word}
use Rattle.reading_model.specs.Transitions.{read_rows}
use Rattle.reading_model.specs.Model.{read_model}
use Rattle.tables.specs.Pool.{pool_arcs}
use Rattle.reading_pool.specs.Pool.{read_ascending, read_arc, read_states, read_pool}
use Rattle.reading_file.specs.Map.{read_roots, read_map}
use Rattle.reading_file.specs.Bad.{read_entries}
use Rattle.tables.specs.Rows.{rows_length}
use Rattle.tables.specs.declared.tables.Machines.{Machines}
use Rattle.tables.specs.declared.tables.Queues.{Queues}
use Rattle.tables.specs.declared.tables.ModelTables.{ModelTables}
use Rattle.tables.specs.declared.tables.Pool.{Pool}
use Rattle.tables.specs.declared.tables.Map.{Map}

-- A FIELD, number by number, with what was read before it as far as it is held to that.
pub data FileField : Type 0 where
  machine_count : FileField
  -- of a machine; the product of the states of those before it
  machine_states : ℕ → FileField
  -- of a machine; its states
  starting_state : ℕ → FileField
  queue_count : FileField
  -- of a queue; the sum of the messages of those before it
  queue_messages : ℕ → FileField
  -- of a queue, in a file that resumes
  content_length : FileField
  transition_count : FileField
  -- of a transition; the machines, and for from and to its machine's states
  machine : ℕ → FileField
  from_state : ℕ → FileField
  to_state : ℕ → FileField
  kind : FileField
  -- of a send or a receive; the queues. A message of its word, or one that waits at the start; its queue
  queue : ℕ → FileField
  word_length : FileField
  word_message : Queues → ℕ → FileField
  pool_count : FileField
  -- of a pool state; the sum of all messages
  final : FileField
  arc_count : ℕ → FileField
  -- of an arc; the sum and the message of the state's arc before it; the pool states
  arc_message : ℕ → Option ℕ → FileField
  arc_target : ℕ → FileField
  -- of a control state; the pool states
  root : ℕ → FileField
  bad_count : FileField
  -- of a bad entry; the control states; the pool states
  bad_control : ℕ → FileField
  bad_root : ℕ → FileField

-- THE RANGE of each (document 01, "The session file")
abbrev pub InRange : FileField → ℕ → Type 0
-- the first number, which says the form too
InRange machine_count v = (1 ≤ v) × (v ≤ most_first)
InRange (machine_states product) v = (1 ≤ v) × (v ≤ most_states)
InRange (starting_state states) v = v < states
InRange queue_count v = (1 ≤ v) × (v ≤ most_queues)
InRange (queue_messages sum) v = (1 ≤ v) × (v ≤ most_messages)
InRange content_length v = v ≤ most_starting
InRange transition_count v = v ≤ most_transitions
InRange (machine machines) v = v < machines
InRange (from_state states) v = v < states
InRange (to_state states) v = v < states
InRange kind v = v < 3
InRange (queue queues) v = v < queues
InRange word_length v = v ≤ most_word
InRange (word_message q i) v = v < q.sum
InRange pool_count v = (1 ≤ v) × (v ≤ most_pool)
InRange final v = v < 2
InRange (arc_count sum) v = v ≤ sum
InRange (arc_message sum before) v = v < sum
InRange (arc_target n) v = v < n
InRange (root n) v = v ≤ n
InRange bad_count v = v ≤ most_bad
InRange (bad_control controls) v = v < controls
InRange (bad_root n) v = v < n

-- the least message that is above the one before it
abbrev pub least_after : Option ℕ → ℕ
least_after none = 0
least_after (some m) = m + 1

-- WHERE READING IS: what is read up to a place, in the order of the fields, by the definitions of reading.
module _ (s : List ℕ) where
  -- fields 1 and 2 of a file that resumes
  pub record Resumes (q : Queues) (p : ℕ) : Type 0 where
    pub machines : Machines
    pub after_machines : ℕ
    pub resumes : read_machines s 0 ≡ got (true, machines) after_machines
    pub queues : counted_queues s after_machines ≡ got q p

  -- and what waits in so many of the queues at the start
  abbrev pub ContentsRead : Queues → ℕ → ℕ → List ℕ × List ℕ → ℕ → Type 0
  ContentsRead q i at held p = read_contents s at q i 0 (replicate most_queues 0, replicate starting_length 0) ≡ got held p

  -- the queues before number i, which is left
  pub record ToContent (q : Queues) (i p : ℕ) : Type 0 where
    pub begins : ℕ
    pub before : Resumes q begins
    pub below : i < q.count
    pub held : List ℕ × List ℕ
    pub read : ContentsRead q i begins held p

  -- fields 1 and 2, and what waits at the start
  pub record ToTransitions (m : Machines) (q : Queues) (p : ℕ) : Type 0 where
    pub resumes : Bool
    pub after_machines : ℕ
    pub machines : read_machines s 0 ≡ got (resumes, m) after_machines
    pub queues : read_queues s after_machines resumes ≡ got q p

  -- and the transitions before number t
  pub record ToTransition (m : Machines) (q : Queues) (t p : ℕ) : Type 0 where
    pub begins : ℕ
    pub before : ToTransitions m q begins
    pub count : ℕ
    pub after_count : ℕ
    pub counted : read_within s begins 0 most_transitions ≡ got count after_count
    pub below : t < count
    pub rows : List ℕ
    pub read : read_rows s after_count m q t 0 (replicate rows_length 0) ≡ got rows p

  -- and of transition t its machine
  pub record ToMove (m : Machines) (q : Queues) (i p : ℕ) : Type 0 where
    pub number : ℕ
    pub begins : ℕ
    pub before : ToTransition m q number begins
    pub read : read_below s begins m.count ≡ got i p

  -- and its from, to and kind, which is a send or a receive
  pub record ToAction (q : Queues) (p : ℕ) : Type 0 where
    pub machines : Machines
    pub machine : ℕ
    pub begins : ℕ
    pub before : ToMove machines q machine begins
    pub move : ℕ × ℕ
    pub after_move : ℕ
    pub moved : read_two s begins (get_or machines.states machine 0) (get_or machines.states machine 0) ≡ got move after_move
    pub kind : ℕ
    pub read : read_below s after_move 3 ≡ got kind p
    pub acts : kind ≡ 0 → ⊥

  -- and its queue i
  pub record ToWord (q : Queues) (i p : ℕ) : Type 0 where
    pub begins : ℕ
    pub before : ToAction q begins
    pub read : read_below s begins q.count ≡ got i p

  -- fields 1 to 3, the number n of pool states, and the states before number i
  pub record ToState (sum n i p : ℕ) : Type 0 where
    pub model : ModelTables
    pub begins : ℕ
    pub before : read_model s 0 ≡ got model begins
    pub sums : sum ≡ model.queues.sum
    pub after_count : ℕ
    pub counted : read_within s begins 1 most_pool ≡ got n after_count
    pub below : i < n
    pub states : List ℕ × List ℕ
    pub read : read_states s after_count n sum i 0 (replicate most_pool 0) (replicate pool_arcs 0) ≡ got states p

  -- and of state i its final mark
  pub record ToArcs (sum n p : ℕ) : Type 0 where
    pub number : ℕ
    pub begins : ℕ
    pub before : ToState sum n number begins
    pub mark : ℕ
    pub read : read_below s begins 2 ≡ got mark p

  -- j arcs are read from a place on up to place p; before is the message of the last of them
  pub data ArcsRead (sum n first : ℕ) : ℕ → Option ℕ → ℕ → Type 0 where
    no_arc : ArcsRead sum n first 0 none first
    one_arc_more : {j q m t p : ℕ} {before : Option ℕ} → ArcsRead sum n first j before q → read_arc s q n sum (least_after before) ≡ got (m, t) p
        → ArcsRead sum n first (suc j) (some m) p

  -- and of state i the number of its arcs, and the arcs before one that is left
  pub record ToArc (sum n : ℕ) (before : Option ℕ) (p : ℕ) : Type 0 where
    pub begins : ℕ
    pub earlier : ToArcs sum n begins
    pub count : ℕ
    pub after_count : ℕ
    pub counted : read_within s begins 0 sum ≡ got count after_count
    pub arc : ℕ
    pub below : arc < count
    pub read : ArcsRead sum n after_count arc before p

  -- fields 1 to 4, with K control states and n pool states
  pub record ToSets (controls n p : ℕ) : Type 0 where
    pub model : ModelTables
    pub pool : Pool
    pub controlled : controls ≡ model.machines.product
    pub counted : n ≡ pool.count
    pub after_model : ℕ
    pub first : read_model s 0 ≡ got model after_model
    pub second : read_pool s after_model model.queues.sum ≡ got pool p

  -- and field 5
  pub record ToBad (controls n p : ℕ) : Type 0 where
    pub begins : ℕ
    pub before : ToSets controls n begins
    pub map : Map
    pub read : read_map s begins controls n ≡ got map p

  -- and of field 6 the number of entries, and the entries before one that is left
  pub record ToEntry (controls n p : ℕ) : Type 0 where
    pub begins : ℕ
    pub before : ToBad controls n begins
    pub count : ℕ
    pub after_count : ℕ
    pub counted : read_within s begins 0 most_bad ≡ got count after_count
    pub entry : ℕ
    pub below : entry < count
    pub rows : List ℕ
    pub read : read_entries s after_count controls n entry 0 (replicate (most_bad * 2) 0) ≡ got rows p

  -- READING COMES TO A FIELD at a place
  pub data Comes : FileField → ℕ → Type 0 where
    to_machine_count : Comes machine_count 0
    to_states : {first p₁ i product p : ℕ} {sizes : List ℕ} → read_within s 0 1 most_first ≡ got first p₁ → i < machines_by first
        → read_sizes s p₁ 1 i 0 (replicate most_machines 0) ≡ got (product, sizes) p → Comes (machine_states product) p
    to_start : {first p₁ i product p₂ p : ℕ} {sizes starts : List ℕ} → read_within s 0 1 most_first ≡ got first p₁
        → read_sizes s p₁ 1 (machines_by first) 0 (replicate most_machines 0) ≡ got (product, sizes) p₂ → i < machines_by first
        → read_starts s p₂ sizes i 0 (replicate most_machines 0) ≡ got starts p → Comes (starting_state (get_or sizes i 0)) p
    to_queue_count : {m : Bool × Machines} {p : ℕ} → read_machines s 0 ≡ got m p → Comes queue_count p
    to_messages : {m : Bool × Machines} {p₁ count p₂ i sum p : ℕ} {counts : List ℕ} → read_machines s 0 ≡ got m p₁
        → read_within s p₁ 1 most_queues ≡ got count p₂ → i < count
        → read_counts s p₂ 0 i 0 (replicate most_queues 0) ≡ got (sum, counts) p → Comes (queue_messages sum) p
    to_content_length : {q : Queues} {i p : ℕ} → ToContent q i p → Comes content_length p
    -- the table that the messages are put into is of no account, here and below
    to_content : {q : Queues} {i p₁ len p₂ j p : ℕ} {table' : List ℕ} (e : ℕ) (table : List ℕ) → ToContent q i p₁
        → read_within s p₁ 0 most_starting ≡ got len p₂ → j < len
        → read_word s p₂ q.sum (first_message q.messages i) (first_message q.messages (suc i)) j e table ≡ got table' p
        → Comes (word_message q i) p
    to_transition_count : {m : Machines} {q : Queues} {p : ℕ} → ToTransitions m q p → Comes transition_count p
    to_machine : {m : Machines} {q : Queues} {t p : ℕ} → ToTransition m q t p → Comes (machine m.count) p
    to_from : {m : Machines} {q : Queues} {i p : ℕ} → ToMove m q i p → Comes (from_state (get_or m.states i 0)) p
    to_to : {m : Machines} {q : Queues} {i p₁ from p : ℕ} → ToMove m q i p₁ → read_below s p₁ (get_or m.states i 0) ≡ got from p
        → Comes (to_state (get_or m.states i 0)) p
    to_kind : {m : Machines} {q : Queues} {i p₁ p : ℕ} {move : ℕ × ℕ} → ToMove m q i p₁
        → read_two s p₁ (get_or m.states i 0) (get_or m.states i 0) ≡ got move p → Comes kind p
    to_queue : {q : Queues} {p : ℕ} → ToAction q p → Comes (queue q.count) p
    to_word_length : {q : Queues} {i p : ℕ} → ToWord q i p → Comes word_length p
    to_word : {q : Queues} {i p₁ len p₂ j p : ℕ} {rows' : List ℕ} (e : ℕ) (rows : List ℕ) → ToWord q i p₁
        → read_within s p₁ 0 most_word ≡ got len p₂ → j < len
        → read_word s p₂ q.sum (first_message q.messages i) (first_message q.messages (suc i)) j e rows ≡ got rows' p
        → Comes (word_message q i) p
    to_pool_count : {M : ModelTables} {p : ℕ} → read_model s 0 ≡ got M p → Comes pool_count p
    to_final : {sum n i p : ℕ} → ToState sum n i p → Comes final p
    to_arc_count : {sum n p : ℕ} → ToArcs sum n p → Comes (arc_count sum) p
    to_arc : {sum n p : ℕ} {before : Option ℕ} → ToArc sum n before p → Comes (arc_message sum before) p
    to_target : {sum n p₁ m p : ℕ} {before : Option ℕ} → ToArc sum n before p₁ → read_ascending s p₁ sum (least_after before) ≡ got m p
        → Comes (arc_target n) p
    to_root : {controls n p₁ c p : ℕ} {roots : List ℕ} → ToSets controls n p₁ → c < controls
        → read_roots s p₁ n c 0 (replicate most_controls 0) ≡ got roots p → Comes (root n) p
    to_bad_count : {controls n p : ℕ} → ToBad controls n p → Comes bad_count p
    to_control : {controls n p : ℕ} → ToEntry controls n p → Comes (bad_control controls) p
    to_bad_root : {controls n p₁ c p : ℕ} → ToEntry controls n p₁ → read_below s p₁ controls ≡ got c p → Comes (bad_root n) p

  -- THE BYTES END before the number that begins at a place, or inside it
  abbrev pub Unfinished : ℕ → Type 0
  Unfinished at = (at ≡ length s) ⊎ ((at + 1 ≡ length s) × (128 ≤ get_or s at 0))

  -- a first byte of 128 or above, and a second that is 0 or itself 128 or above
  pub record Malformed (at : ℕ) : Type 0 where
    pub inside : at + 1 < length s
    pub first : 128 ≤ get_or s at 0
    pub second : (get_or s (at + 1) 0 ≡ 0) ⊎ (128 ≤ get_or s (at + 1) 0)

  -- number v of field f stands at place p
  pub record NumberAt (f : FileField) (v p : ℕ) : Type 0 where
    pub comes : Comes f p
    pub next : ℕ
    pub number : read_number s p ≡ got v next

-- THE CAUSE of refusal k at place p
pub data Cause (s : List ℕ) : ℕ → ℕ → Type 0 where
  ends : {f : FileField} {at : ℕ} → Comes s f at → Unfinished s at → Cause s 3 (length s)
  malformed : {f : FileField} {p : ℕ} → Comes s f p → Malformed s p → Cause s 4 p
  outside : {f : FileField} {v p : ℕ} → NumberAt s f v p → (InRange f v → ⊥) → Cause s 5 p
  -- from here on the number is in range
  product_passed : {product v p : ℕ} → NumberAt s (machine_states product) v p → InRange (machine_states product) v → most_controls < product * v
      → Cause s 6 p
  sum_passed : {sum v p : ℕ} → NumberAt s (queue_messages sum) v p → InRange (queue_messages sum) v → most_messages < sum + v → Cause s 6 p
  other_queue : {q : Queues} {i v p : ℕ} → NumberAt s (word_message q i) v p → InRange (word_message q i) v → (OfQueue q i v → ⊥) → Cause s 7 p
  not_ascending : {sum before v p : ℕ} → NumberAt s (arc_message sum (some before)) v p → InRange (arc_message sum (some before)) v → v ≤ before
      → Cause s 8 p
  -- what waits in all queues is read, and that is nothing
  starts_empty : {q : Queues} {begins p : ℕ} {held : List ℕ × List ℕ} → Resumes s q begins → ContentsRead s q q.count begins held p
      → ((i : ℕ) → get_or held.0 i 0 ≡ 0) → Cause s 23 0
