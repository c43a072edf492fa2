-- The pool of a diagram, from its automaton and its states: entry by entry, and 0 beyond them.
use Rattle.std.specs.Prelude.{Bool, cond, not, List, ℕ, zero, suc, ◌+◌, ◌-◌, ◌*◌, ◌/◌, ◌%◌, eqb, length, get_or, set, replicate}
use Rattle.tables.specs.Limits.{most_messages, most_pool}
use Rattle.tables.specs.Pool.{pool_arcs}
use Rattle.tables.specs.declared.tables.Pool.{Pool}
use Rattle.theory_occurrences.specs.Sets.{meet, marked}
use Rattle.theory_occurrences.specs.Positions.{Automaton}
use Rattle.expression_states.specs.States.{next_of, place_from}

-- so many entries of a table, from i on, each as the function says
unfoldable pub entries_from : (ℕ → ℕ) → ℕ → ℕ → List ℕ → List ℕ
entries_from f zero i T = T
entries_from f (suc left) i T = entries_from f left (i + 1) (set T i (f i))

-- an arc to a set, among states N: 0 for none where the set is empty, else 1 plus its place
abbrev pub arc_to : List ℕ → ℕ → ℕ
arc_to N x = cond (eqb x 0) 0 (place_from 0 N x)

-- the row of arcs that begins at an entry, out of what may come next
abbrev pub row_entry : List ℕ → ℕ → List ℕ → ℕ → ℕ → ℕ
row_entry N z L row k = arc_to N (meet z (marked (k - row) L))

-- the arc of a state for a message stands at state · 32 + message
abbrev pub arc_entry : List ℕ → ℕ → List ℕ → List ℕ → ℕ → ℕ
arc_entry N first F L k = arc_to N (meet (next_of first F (get_or N (k / most_messages) 0)) (marked (k % most_messages) L))

-- 1 for a state at which a word may end
abbrev pub final_mark : Bool → ℕ → ℕ → ℕ
final_mark skips last x = cond (cond (eqb x 0) skips (not (eqb (meet x last) 0))) 1 0

-- THE POOL
abbrev pub pool_for : Automaton → List ℕ → Pool
pool_for A N =
    record {
      count = length N;
      finals = entries_from (λ i. final_mark A.skips A.last (get_or N i 0)) (length N) 0 (replicate most_pool 0);
      arcs = entries_from (arc_entry N A.first A.follow A.label) (length N * most_messages) 0 (replicate pool_arcs 0);
    }
