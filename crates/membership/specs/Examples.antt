-- Membership in file S of document 01, by computing with the definition.
use Rattle.std.specs.Prelude.{ℕ, ◌≡◌, refl, List, [], ◌∷◌}
use Rattle.theory_exploration.specs.Explore.{expand, fresh}
use Rattle.numbers.specs.Number.{read_number, read_within, read_below, read_two}
use Rattle.reading_model.specs.Machines.{read_factor, read_sizes, read_starts, counted_machines, read_machines}
use Rattle.reading_model.specs.Words.{read_message, read_word}
use Rattle.reading_model.specs.Queues.{read_term, read_counts, counted_queues, read_queues}
use Rattle.tables.specs.Queues.{first_message}
use Rattle.reading_model.specs.Transitions.{read_action, read_transition, read_rows, read_transitions}
use Rattle.reading_pool.specs.Pool.{read_ascending, read_arc, read_arcs, read_state, read_states, read_pool}
use Rattle.theory_exploration.specs.Growing.{gather}
use Rattle.reading_order.specs.Nodes.{queue_nodes}
use Rattle.reading_order.specs.Search.{reached, none_fails, in_queue_order}
use Rattle.reading_file.specs.Map.{read_roots, read_map}
use Rattle.reading_file.specs.Bad.{read_entries, read_bad}
use Rattle.reading_model.specs.Model.{read_model}
use Rattle.reading_file.specs.Sets.{read_sets}
use Rattle.reading_file.specs.Ends.{read_ends}
use Rattle.reading_file.specs.File.{read_with, read_file}
use Rattle.theory_files.specs.Cases.{hex}
use Rattle.membership.specs.Member.{yes, no, refusal, judge, ask, member_of}

-- one machine of one state, so control state 0 alone; message 0 is of queue 0 and message 1 of queue 1; the set is any 0s, then any 1s
abbrev pub S : List ℕ
S = hex "01 01 00 02 01 01 01 00 00 00 01 00 01 00 02 01 02 00 00 01 01 01 01 01 01 01 00"

-- S with a pool in which no arc is for message 1, and S with no root
abbrev pub Stuck : List ℕ
Stuck = hex "01 01 00 02 01 01 01 00 00 00 01 00 01 00 01 01 01 00 00 01 00"

abbrev pub Rootless : List ℕ
Rootless = hex "01 01 00 02 01 01 01 00 00 00 01 00 01 00 02 01 02 00 00 01 01 01 01 01 01 00 00"

-- Contents 0 1 belong, and contents 1 0 are refused. So are another control state and another message, and the order of queues is asked also
-- where the diagram has nowhere to go.
pub replies :
    (member_of S 0 (0 ∷ 1 ∷ []) ≡ yes 2)
    × (member_of S 0 (1 ∷ 0 ∷ []) ≡ refusal 13 1)
    × (member_of S 1 (0 ∷ 1 ∷ []) ≡ refusal 11 0)
    × (member_of S 0 (1 ∷ 2 ∷ 0 ∷ []) ≡ refusal 12 1)
    × (member_of Stuck 0 (0 ∷ 1 ∷ []) ≡ no 1)
    × (member_of Stuck 0 (1 ∷ 0 ∷ []) ≡ refusal 13 1)
    × (member_of Rootless 0 (0 ∷ []) ≡ no 0)
    × (member_of Rootless 0 (1 ∷ 0 ∷ []) ≡ refusal 13 1)
unfolding
    member_of ask judge read_file read_with read_model read_ends read_sets
    read_number read_within read_below read_two
    read_factor read_sizes read_starts counted_machines read_machines
    read_term read_counts counted_queues read_queues first_message
    read_message read_word read_action read_transition read_rows read_transitions
    read_ascending read_arc read_arcs read_state read_states read_pool
    gather queue_nodes reached none_fails in_queue_order expand fresh
    read_roots read_map read_entries read_bad
replies = (refl, refl, refl, refl, refl, refl, refl, refl)
