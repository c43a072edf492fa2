-- The session that the tables of a file describe. Its projections compute, so a proof pays nothing for it.
use Rattle.std.specs.Prelude.{ℕ, zero, suc, ◌+◌, ◌*◌, List, [], ◌∷◌, get_or, take}
use Rattle.tables.specs.Lookup.{root_of}
use Rattle.tables.specs.Starting.{starting_of}
use Rattle.tables.specs.declared.tables.Machines.{Machines}
use Rattle.tables.specs.declared.tables.Queues.{Queues}
use Rattle.tables.specs.declared.tables.Transitions.{Transitions}
use Rattle.tables.specs.declared.tables.Tables.{Tables}
use Rattle.theory_model.specs.Model.{Model, Action, local, send, receive, Transition}
use Rattle.theory_model.specs.Session.{Session}
use Rattle.theory_tables.specs.Pool.{pool_of}
use Rattle.tables.specs.Rows.{row_length, machine_at, from_at, to_at, kind_at, queue_at, word_at}

-- kinds: 0 local, 1 send, 2 receive
abbrev pub action_of : ℕ → ℕ → List ℕ → Action
action_of zero q w = local
action_of (suc zero) q w = send q w
action_of (suc (suc k)) q w = receive q w

abbrev pub transition_at : List ℕ → ℕ → Transition
transition_at rows row =
    record {
      machine = machine_at rows row;
      from = from_at rows row;
      to = to_at rows row;
      action = action_of (kind_at rows row) (queue_at rows row) (word_at rows row);
    }

-- so many transitions from number t on
abbrev pub transitions_from : List ℕ → ℕ → ℕ → List Transition
transitions_from rows zero t = []
transitions_from rows (suc left) t = transition_at rows (t * row_length) ∷ transitions_from rows left (suc t)

abbrev pub model_of : Machines → Queues → Transitions → Model
model_of m q τ =
    record {
      sizes = take m.count m.states;
      starts = take m.count m.starts;
      queues = take q.count q.messages;
      starting = starting_of q;
      transitions = transitions_from τ.rows τ.count 0;
    }

-- bad entry b, a control state and a root; and so many from number b on
abbrev pub entry_at : List ℕ → ℕ → ℕ × ℕ
entry_at rows b = (get_or rows (b * 2) 0, get_or rows (b * 2 + 1) 0)

abbrev pub bad_from : List ℕ → ℕ → ℕ → List (ℕ × ℕ)
bad_from rows zero b = []
bad_from rows (suc left) b = entry_at rows b ∷ bad_from rows left (suc b)

-- THE SESSION of a file that was read
abbrev pub session_of : Tables → Session
session_of T =
    record {
      model = model_of T.machines T.queues T.transitions;
      pool = pool_of T.pool;
      root = root_of T.map.roots;
      bad = bad_from T.bad.rows T.bad.count 0;
    }
