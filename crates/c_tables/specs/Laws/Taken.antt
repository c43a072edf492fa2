-- Flat bytes stand for the tables that were put there, and tables that are taken from flat bytes are those bytes when they are put.
use Rattle.std.specs.Prelude.{ℕ, ◌*◌, ◌≤◌, ◌≡◌, length, take, drop}
use Rattle.std.proofs.Math.Path.{sym, ap, ap₂}
use Rattle.std.proofs.Common.{subst, ◌∙◌, take-append-drop, length-take, arith}
use mathlib.Core.List.{List, ◌++◌, append_assoc}
use Rattle.numbers.specs.Put.{four}
use Rattle.tables.specs.Limits.{most_machines, most_controls, most_queues, most_pool, most_bad}
use Rattle.tables.specs.Rows.{rows_length}
use Rattle.tables.specs.Pool.{pool_arcs}
use Rattle.tables.specs.Starting.{starting_length}
use Rattle.tables.specs.Valid.{product_of}
use Rattle.tables.specs.declared.tables.Tables.{Tables}
use Rattle.reading_file.specs.Valid.{Valid}
use Rattle.theory_format.specs.Readable.{Readable}
use Rattle.theory_format.proofs.Whole.{readable_exactly}
use Rattle.c_tables.specs.Flat.{counts_of, small, starting, large, flat, counts_long, small_long, starting_long, large_long, tables_least}
use Rattle.c_tables.specs.Taken.{part, states_place, starts_place, messages_place, lengths_place, contents_place}
use Rattle.c_tables.specs.Taken.{rows_place, finals_place, arcs_place, roots_place, entries_place, tables_at}
use Rattle.c_tables.specs.Laws.Put.{flat_long}
use Rattle.c_tables.specs.Laws.Parts.{Stands, stands, part_add, part_four, first_six}

-- the brackets of `flat`, all to the right
to_the_right : (a b c d e f g h i j k rest : List ℕ)
    → (((four a b c d ++ (e ++ f)) ++ four g h i j) ++ k) ++ rest
    ≡ a ++ (b ++ (c ++ (d ++ (e ++ (f ++ (g ++ (h ++ (i ++ (j ++ (k ++ rest))))))))))
to_the_right a b c d e f g h i j k rest = simp append_assoc

-- WHERE EACH TABLE STANDS
module _ (T : Tables) (v : Valid T) (rest : List ℕ) where
  abbrev bytes : List ℕ
  bytes = flat T ++ rest

  abbrev from_roots : List ℕ
  from_roots = T.map.roots ++ (T.bad.rows ++ rest)

  abbrev from_rows : List ℕ
  from_rows = T.transitions.rows ++ (T.pool.finals ++ (T.pool.arcs ++ from_roots))

  abbrev from_lengths : List ℕ
  from_lengths = T.queues.lengths ++ (T.queues.contents ++ from_rows)

  abbrev from_states : List ℕ
  from_states = T.machines.states ++ (T.machines.starts ++ (T.queues.messages ++ from_lengths))

  whole : bytes ≡ counts_of T ++ from_states
  whole =
      to_the_right (counts_of T) T.machines.states T.machines.starts T.queues.messages T.queues.lengths T.queues.contents
      T.transitions.rows T.pool.finals T.pool.arcs T.map.roots T.bad.rows rest

  states_stand : Stands bytes states_place most_machines T.machines.states (T.machines.starts ++ (T.queues.messages ++ from_lengths))
  states_stand = stands most_machines _ _ (ap (drop states_place) whole) v.machines.states_long

  starts_stand : Stands bytes starts_place most_machines T.machines.starts (T.queues.messages ++ from_lengths)
  starts_stand = stands most_machines _ _ states_stand.after v.machines.starts_long

  messages_stand : Stands bytes messages_place most_queues T.queues.messages from_lengths
  messages_stand = stands most_queues _ _ starts_stand.after v.queues.long

  lengths_stand : Stands bytes lengths_place most_queues T.queues.lengths (T.queues.contents ++ from_rows)
  lengths_stand = stands most_queues _ _ messages_stand.after v.queues.starting.lengths_long

  contents_stand : Stands bytes contents_place starting_length T.queues.contents from_rows
  contents_stand = stands starting_length _ _ lengths_stand.after v.queues.starting.contents_long

  rows_stand : Stands bytes rows_place rows_length T.transitions.rows (T.pool.finals ++ (T.pool.arcs ++ from_roots))
  rows_stand = stands rows_length _ _ contents_stand.after v.transitions.long

  finals_stand : Stands bytes finals_place most_pool T.pool.finals (T.pool.arcs ++ from_roots)
  finals_stand = stands most_pool _ _ rows_stand.after v.pool.finals_long

  arcs_stand : Stands bytes arcs_place pool_arcs T.pool.arcs from_roots
  arcs_stand = stands pool_arcs _ _ finals_stand.after v.pool.arcs_long

  roots_stand : Stands bytes roots_place most_controls T.map.roots (T.bad.rows ++ rest)
  roots_stand = stands most_controls _ _ arcs_stand.after v.map.long

  entries_stand : Stands bytes entries_place (most_bad * 2) T.bad.rows rest
  entries_stand = stands (most_bad * 2) _ _ roots_stand.after v.bad.long

  product_is : product_of (part states_place most_machines bytes) T.machines.count ≡ T.machines.product
  product_is = ap (λ (l : List ℕ). product_of l T.machines.count) states_stand.here ∙ sym v.machines.product

  -- WHAT WAS PUT IS TAKEN
  pub taken_flat : tables_at (flat T ++ rest) ≡ T
  unfolding tables_at
  taken_flat =
      λ i.
      record {
        machines = record {
          count = T.machines.count;
          product = product_is i;
          states = states_stand.here i;
          starts = starts_stand.here i;
        };
        queues = record {
          count = T.queues.count;
          sum = T.queues.sum;
          messages = messages_stand.here i;
          lengths = lengths_stand.here i;
          contents = contents_stand.here i;
        };
        transitions = record { count = T.transitions.count; rows = rows_stand.here i };
        pool = record { count = T.pool.count; finals = finals_stand.here i; arcs = arcs_stand.here i };
        map = record { roots = roots_stand.here i };
        bad = record { count = T.bad.count; rows = entries_stand.here i };
      }

-- WHAT IS TAKEN IS WHAT STANDS THERE
module _ (f : List ℕ) where
  small_taken : tables_least ≤ length f → small (tables_at f) ≡ part 0 small_long f
  unfolding tables_at
  small_taken h =
      ap (λ (l : List ℕ). four l (part states_place most_machines f) (part starts_place most_machines f) (part messages_place most_queues f))
      (first_six f (omega arith))
      ∙ sym (part_four 0 counts_long most_machines most_machines most_queues f)

  starting_taken : starting (tables_at f) ≡ part small_long starting_long f
  unfolding tables_at
  starting_taken = sym (part_add small_long most_queues starting_length f)

  large_taken : large (tables_at f) ≡ part rows_place large_long f
  unfolding tables_at
  large_taken = sym (part_four rows_place rows_length most_pool pool_arcs most_controls f)

  pub flat_taken : tables_least ≤ length f → flat (tables_at f) ≡ take tables_least f
  unfolding tables_at
  flat_taken h =
      let front = ap₂ (λ (s l : List ℕ). s ++ l) (small_taken h) starting_taken ∙ sym (part_add 0 small_long starting_long f) in
      ap₂ (λ (s l : List ℕ). (s ++ l) ++ part entries_place (most_bad * 2) f) front large_taken
      ∙ ap (λ (l : List ℕ). l ++ part entries_place (most_bad * 2) f) (sym (part_add 0 rows_place large_long f))
      ∙ sym (part_add 0 entries_place (most_bad * 2) f)

-- FLAT BYTES STAND FOR TABLES OF A FILE exactly if such tables were put there.
module _ (f : List ℕ) where
  taken_from : (T : Tables) → Valid T → take tables_least f ≡ flat T → tables_at f ≡ T
  taken_from T v e =
      ap tables_at (sym (take-append-drop tables_least f) ∙ ap (λ (l : List ℕ). l ++ drop tables_least f) e) ∙ taken_flat T v (drop tables_least f)

  pub taken_readable : (T : Tables) → Readable T → take tables_least f ≡ flat T → (tables_least ≤ length f) × Readable (tables_at f)
  taken_readable T r e =
      let v = (readable_exactly T).0 r in (
        omega (arith, ap length e, flat_long T v, length-take tables_least f),
        subst Readable (sym (taken_from T v e)) r,
      )

  pub readable_taken : tables_least ≤ length f → Readable (tables_at f) → (T : Tables) × (Readable T × (take tables_least f ≡ flat T))
  readable_taken h r = (tables_at f, (r, sym (flat_taken f h)))
