-- What the putting functions speak of: how far places go, rows of arcs, and the stretches of the file that one function puts.
use Rattle.std.specs.Prelude.{ℕ, ◌+◌, ◌*◌, Bool, cond, ◌&&◌, List, [], ◌++◌, length, get_or, take, drop, eqb, ltb}
use Rattle.tables.specs.Limits.{most_messages}
use Rattle.tables.specs.Rows.{kind_at, row_length}
use Rattle.tables.specs.Starting.{waits}
use Rattle.tables.specs.declared.tables.Queues.{Queues}
use Rattle.theory_format.specs.Spelled.{number, contents, action, transition, arcs_of, pool, mapped, bad}
use Rattle.tables.specs.declared.head.Head.{Head}

-- further than any text goes, and no sum with it passes what a place can hold
abbrev pub ample_place : ℕ
ample_place = 1000000

-- do two numbers take a byte each, and are both places in a buffer of so many bytes?
abbrev pub both_short : ℕ → ℕ → ℕ → ℕ → Bool
both_short long at a b = ltb a 128 && (ltb b 128 && ltb (at + 1) long)

-- the arcs of a state as the table has them, cut off at the table's end
abbrev pub row_of : List ℕ → ℕ → ℕ → List ℕ
row_of table i sum = take sum (drop (i * most_messages) table)

-- the arcs of such a row
abbrev pub arcs_in : List ℕ → List (ℕ × ℕ)
arcs_in row = arcs_of row 0 (length row) 0

-- field 2 after the queues' messages: what waits, if the file resumes
unfoldable pub waiting : Queues → List ℕ
waiting q = cond (waits q.lengths) (contents q) []

-- a transition from its kind on
unfoldable pub kind : List ℕ → ℕ → List ℕ
kind rows row = number (kind_at rows row) ++ cond (eqb (kind_at rows row) 0) [] (action rows row)

-- the transition of a number, by the rows of all
abbrev pub transition_of : List ℕ → ℕ → List ℕ
transition_of rows t = transition rows (t * row_length)

-- and the bad entry
abbrev pub bad_entry : List ℕ → ℕ → List ℕ
bad_entry rows b = number (get_or rows (b * 2) 0) ++ number (get_or rows (b * 2 + 1) 0)

-- fields 4 to 6
unfoldable pub diagrams : Head → List ℕ → List ℕ → List ℕ → List ℕ → List ℕ
diagrams h finals arcs roots entries =
    pool h.queues.sum (record { count = h.states; finals = finals; arcs = arcs })
    ++ (mapped h.machines.product (record { roots = roots }) ++ bad (record { count = h.bad; rows = entries }))
