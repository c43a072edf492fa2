-- THE BYTES OF A SESSION FILE with these tables (document 01, "The session file"), field by field. Where some queue starts with a message, the
-- file resumes (document 02, change 8): its first number says so, and what waits stands after field 2.
use Rattle.std.specs.Prelude.{ℕ, zero, suc, ◌+◌, ◌*◌, ◌/◌, ◌%◌, Bool, cond, List, [], ◌∷◌, ◌++◌, length, get_or, ltb, eqb}
use Rattle.std.proofs.Math.Option.{none, some}
use Rattle.tables.specs.Limits.{most_machines, most_starting}
use Rattle.tables.specs.Rows.{row_length, word_entry, machine_at, from_at, to_at, kind_at, queue_at, length_at}
use Rattle.tables.specs.Pool.{arc_at}
use Rattle.tables.specs.Starting.{waits}
use Rattle.tables.specs.declared.tables.Machines.{Machines}
use Rattle.tables.specs.declared.tables.Queues.{Queues}
use Rattle.tables.specs.declared.tables.Transitions.{Transitions}
use Rattle.tables.specs.declared.tables.Pool.{Pool}
use Rattle.tables.specs.declared.tables.Map.{Map}
use Rattle.tables.specs.declared.tables.BadList.{BadList}
use Rattle.tables.specs.declared.tables.Tables.{Tables}

-- a number: groups of seven bits, low group first, the top bit set when another group follows; the shorter form
unfoldable pub number : ℕ → List ℕ
number v = cond (ltb v 128) (v ∷ []) ((128 + v % 128) ∷ (v / 128) ∷ [])

-- so many parts one after another, from number i on
unfoldable pub each : (ℕ → List ℕ) → ℕ → ℕ → List ℕ
each part zero i = []
each part (suc left) i = part i ++ each part left (i + 1)

-- so many entries of a table, from entry i on
abbrev pub entries : List ℕ → ℕ → ℕ → List ℕ
entries table left i = each (λ k. number (get_or table k 0)) left i

-- field 1: how many, plus the most there may be if the file resumes; for each its states; for each its starting state
abbrev pub first_number : Bool → ℕ → ℕ
first_number resumes count = cond resumes (count + most_machines) count

unfoldable pub machines : Bool → Machines → List ℕ
machines resumes m =
    number (first_number resumes m.count) ++ (entries m.states m.count 0 ++ entries m.starts m.count 0)

-- field 2: how many; for each its messages; if the file resumes, for each how many messages wait in it, and these
unfoldable pub content : List ℕ → List ℕ → ℕ → List ℕ
content lengths table i = number (get_or lengths i 0) ++ entries table (get_or lengths i 0) (i * most_starting)

unfoldable pub contents : Queues → List ℕ
contents q = each (content q.lengths q.contents) q.count 0

unfoldable pub queues : Queues → List ℕ
queues q = number q.count ++ (entries q.messages q.count 0 ++ cond (waits q.lengths) (contents q) [])

-- field 3: how many; for each machine, from, to, kind; kinds 1 and 2 go on with queue, word length and the messages
unfoldable pub action : List ℕ → ℕ → List ℕ
action rows row = number (queue_at rows row) ++ (number (length_at rows row) ++ entries rows (length_at rows row) (word_entry row))

unfoldable pub transition : List ℕ → ℕ → List ℕ
transition rows row =
    number (machine_at rows row)
    ++ (number (from_at rows row)
    ++ (number (to_at rows row)
    ++ (number (kind_at rows row)
    ++ cond (eqb (kind_at rows row) 0) [] (action rows row))))

unfoldable pub transitions : Transitions → List ℕ
transitions τ = number τ.count ++ each (λ t. transition τ.rows (t * row_length)) τ.count 0

-- field 4: how many states; for each its final mark, how many arcs, and for each arc its message, below the sum, and its target
-- the arcs of state i for so many messages from m on
unfoldable pub arcs_of : List ℕ → ℕ → ℕ → ℕ → List (ℕ × ℕ)
arcs_of table i zero m = []
arcs_of table i (suc left) m =
    elim (arc_at table i m) [ none ↦ arcs_of table i left (m + 1) | some t ↦ (m, t) ∷ arcs_of table i left (m + 1) ]

unfoldable pub arcs : List (ℕ × ℕ) → List ℕ
arcs [] = []
arcs (arc ∷ rest) = number arc.0 ++ (number arc.1 ++ arcs rest)

abbrev pub counted : List (ℕ × ℕ) → List ℕ
counted l = number (length l) ++ arcs l

unfoldable pub state : List ℕ → List ℕ → ℕ → ℕ → List ℕ
state finals table sum i = number (get_or finals i 0) ++ counted (arcs_of table i sum 0)

unfoldable pub pool : ℕ → Pool → List ℕ
pool sum P = number P.count ++ each (state P.finals P.arcs sum) P.count 0

-- field 5: for each of so many control states 0 for no root, or 1 plus the root, as the table has it
unfoldable pub mapped : ℕ → Map → List ℕ
mapped product R = entries R.roots product 0

-- field 6: how many; for each its control state and its root, as it is
unfoldable pub bad : BadList → List ℕ
bad B =
    number B.count
    ++ each (λ b. number (get_or B.rows (b * 2) 0) ++ number (get_or B.rows (b * 2 + 1) 0)) B.count 0

-- THE FILE: its fields in turn, and nothing after the last
unfoldable pub spelled : Tables → List ℕ
spelled T =
    machines (waits T.queues.lengths) T.machines
    ++ (queues T.queues
    ++ (transitions T.transitions
    ++ (pool T.queues.sum T.pool ++ (mapped T.machines.product T.map ++ bad T.bad))))
