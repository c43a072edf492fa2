-- A transition taken on record and memory is the model's step, by what the code finds.
use Rattle.std.specs.Prelude.{ℕ, ◌+◌, ◌*◌, ◌≤◌, ◌<◌, ◌≡◌, refl, true, List, length, get_or, set, take, Ok, Err}
use Rattle.std.proofs.Common.{sym, ap, ap₂, subst, ◌∙◌, arith, mul-le-mul, le_refl, zero-add, length-set, get_or-take, eq-eqb, ne_eqb}
use Rattle.std.proofs.Math.Option.{Option, none, some}
use Rattle.std.proofs.Math.ListN.{get_elem?}
use Rattle.std.proofs.Math.Seq.{take-set-lt}
use Rattle.tables.specs.Limits.{most_machines}
use Rattle.tables.specs.Rows.{row_length, rows_length, machine_at, from_at, to_at, kind_at, queue_at, word_at}
use Rattle.tables.specs.Valid.{RowValid}
use Rattle.theory_model.specs.Model.{Action, Transition, Configuration, act, is_at, moved, number, places, take?, Contents}
use Rattle.theory_model.specs.Session.{States}
use Rattle.theory_model.specs.Laws.Basics.{none_not_some}
use Rattle.theory_model.specs.Laws.Controls.{places_number, states_set}
use Rattle.theory_model.specs.Laws.Items.{at_place}
use Rattle.theory_model.specs.Laws.Steps.{Taken, taken_is, take_not_at, is_taken, contents_act}
use Rattle.theory_files.specs.Tables.{action_of, transition_at}
use Rattle.theory_files.specs.Laws.Rows.{transition_at_lem, words_own}
use Rattle.controls.specs.Controls.{sizes_of}
use Rattle.controls.specs.Laws.Parting.{size_at}
use Rattle.replaying_queues.specs.Ring.{rings}
use Rattle.replaying_queues.specs.Laws.Rings.{rings_fit}
use Rattle.replaying_step.specs.Parts.{transitions_of, model_in}
use Rattle.replaying_step.specs.Configurations.{run_of, config_of, Holds}
use Rattle.replaying_step.specs.Laws.Shifting.{ringed_rings}
use Rattle.replaying_step.specs.Taking.{Takeable, Stays, Shiftable, Shifted, Unshifted, Shifts, Acts, Takes}
use Rattle.replaying_step.specs.Laws.Lists.{each_of_set}
use Rattle.tables.specs.declared.head.Head.{Head}
use Rattle.replaying_step.specs.declared.runs.RunRecord.{RunRecord}
use Rattle.replaying_step.specs.declared.taking.Untaken.{Untaken}
use Rattle.replaying_step.specs.declared.taking.Untaken.TheVariants.{NotPossible, NoRoom}

one_some : {o : Option Transition} {τ τ' : Transition} → o ≡ some τ → o ≡ some τ' → τ ≡ τ'
one_some e e' = cc

module _ {f : Head} {rows : List ℕ} {r : RunRecord} {mem : List ℕ} {i : ℕ} (A : Takeable f rows r mem i) where
  abbrev row : ℕ
  row = i * row_length

  abbrev action : Action
  action = action_of (kind_at rows row) (queue_at rows row) (word_at rows row)

  row_valid : RowValid f.machines f.queues rows (i * row_length)
  row_valid = A.transitions.row i A.number

  -- the row stands in the table, and its machine is one of them
  pub row_within : i * row_length + row_length ≤ length rows
  row_within =
      let g : (i + 1) * row_length ≤ f.transitions * row_length = mul-le-mul (let z : i + 1 ≤ f.transitions = omega (arith, A.number) in z) (le_refl row_length) in
      let most : f.transitions * row_length ≤ rows_length = mul-le-mul A.transitions.most (le_refl row_length) in
      omega (arith, g, most, A.transitions.long)

  pub machine_few : machine_at rows (i * row_length) < most_machines
  machine_few = omega (arith, row_valid.move.machine, A.machines.most)

  pub number_few : i < 128
  number_few = omega (arith, A.number, A.transitions.most)

  pub row_shiftable : Shiftable f.queues rows (i * row_length) r.heads r.lengths mem
  row_shiftable =
      record {
        queues = A.queues;
        action = row_valid.action;
        within = row_within;
        ringed = A.holds.ringed;
        enough = A.holds.enough;
      }

  abbrev before : Configuration
  before = config_of f.machines f.queues r mem

  numbered : get_elem? (model_in f rows).transitions i ≡ some (transition_at rows (i * row_length))
  numbered = transition_at_lem rows f.transitions 0 i A.number ∙ ap (λ n. some (transition_at rows (n * row_length))) (zero-add i)

  -- the machines' states are the record's
  placed : places (sizes_of f.machines) before.control ≡ take f.machines.count r.states
  placed = places_number (sizes_of f.machines) (take f.machines.count r.states) A.holds.placed

  standing : get_or (places (sizes_of f.machines) before.control) (machine_at rows row) 0 ≡ get_or r.states (machine_at rows row) 0
  standing =
      ap (λ ps. get_or ps (machine_at rows row) 0) placed
      ∙ get_or-take f.machines.count r.states (machine_at rows row) 0 row_valid.move.machine

  -- THE MACHINE IS IN ANOTHER STATE
  pub take_elsewhere : (get_or r.states (machine_at rows row) 0 ≡ from_at rows row → ⊥) → Takes f rows i r mem (Err NotPossible) r mem
  take_elsewhere n = (
    take_not_at (model_in f rows) i before (transition_at rows row) numbered (ne_eqb _ _ (λ e. n (sym standing ∙ e))),
    record { same = refl; kept = refl },
  )

  module _ (at : get_or r.states (machine_at rows row) 0 ≡ from_at rows row) where
    is_at_lem : is_at (model_in f rows) before.control (transition_at rows row) ≡ true
    is_at_lem = eq-eqb _ _ (standing ∙ at)

    -- THE QUEUE does not allow it, or would pass its room
    refused_none : act action before.queues ≡ none → take? (model_in f rows) i before ≡ none
    refused_none e = go (take? (model_in f rows) i before) refl
      where
        other : (γ : Configuration) → Taken (model_in f rows) i before γ → none ≡ some γ
        other γ T = none_not_some e (ap (λ τ. act τ.action before.queues) (one_some numbered T.numbered) ∙ T.acted)

        go : (o : Option Configuration) → take? (model_in f rows) i before ≡ o → o ≡ none
        go none g = refl
        go (some γ) g = sym (other γ (taken_is (model_in f rows) i before γ g))

    abbrev after : List (List ℕ) → Configuration
    after qs = record { control = moved (model_in f rows) before.control (transition_at rows row); queues = qs }

    taken_to : {qs : List (List ℕ)} → act action before.queues ≡ some qs → take? (model_in f rows) i before ≡ some (after qs)
    taken_to {qs} e = is_taken (model_in f rows) i before (transition_at rows row) qs numbered is_at_lem e

    stays : {hs ls mem' : List ℕ} → Unshifted r.heads r.lengths mem hs ls mem' → Stays r mem (run_of r.states hs ls) mem'
    stays u = record { same = ap₂ (run_of r.states) u.heads u.lengths; kept = u.memory }

    pub take_refused : {hs ls mem' : List ℕ} → Shifts f.queues action r.heads r.lengths mem (Err NotPossible) hs ls mem'
        → Takes f rows i r mem (Err NotPossible) (run_of r.states hs ls) mem'
    take_refused (e, u) = (refused_none e, stays u)

    pub take_full : {hs ls mem' : List ℕ} → Shifts f.queues action r.heads r.lengths mem (Err NoRoom) hs ls mem'
        → Takes f rows i r mem (Err NoRoom) (run_of r.states hs ls) mem'
    take_full ((qs, e, n), u) = ((after qs, taken_to e, n), stays u)

    -- THE STEP IS TAKEN: the machine moves to its to-state
    module _ {hs ls mem' : List ℕ} (s : Shifted f.queues action r.heads r.lengths mem hs ls mem') where
      abbrev arrived : RunRecord
      arrived = run_of (set r.states (machine_at rows row) (to_at rows row)) hs ls

      states_moved : take f.machines.count arrived.states ≡ set (take f.machines.count r.states) (machine_at rows row) (to_at rows row)
      states_moved =
          take-set-lt f.machines.count r.states (machine_at rows row) (to_at rows row) row_valid.move.machine

      led : moved (model_in f rows) before.control (transition_at rows row) ≡ number (sizes_of f.machines) (take f.machines.count arrived.states)
      led =
          ap (λ ps. number (sizes_of f.machines) (set ps (machine_at rows row) (to_at rows row))) placed
          ∙ ap (number (sizes_of f.machines)) (sym states_moved)

      contents_kept : Contents (model_in f rows) (rings mem' hs ls f.queues.count)
      contents_kept =
          contents_act (model_in f rows) action before.queues (rings mem' hs ls f.queues.count)
          (words_own f.machines f.queues (transitions_of f rows) A.queues A.transitions (transition_at rows row)
          (at_place (model_in f rows).transitions i numbered)) A.holds.contents s.acted

      arrived_holds : Holds f.machines f.queues arrived mem'
      arrived_holds =
          record {
            states_long = length-set r.states (machine_at rows row) (to_at rows row) ∙ A.holds.states_long;
            placed =
                subst (States (sizes_of f.machines)) (sym states_moved)
                (states_set (sizes_of f.machines) (take f.machines.count r.states) (machine_at rows row) (to_at rows row)
                (subst (λ n. to_at rows row < n) (sym (size_at f.machines A.machines (machine_at rows row) row_valid.move.machine)) row_valid.move.to)
                A.holds.placed);
            rest =
                each_of_set (λ j x. f.machines.count ≤ j → x ≡ 0) r.states (machine_at rows row) (to_at rows row)
                (omega (arith, machine_few, A.holds.states_long)) (λ l. absurd (omega (arith, row_valid.move.machine)))
                (λ j _ l. A.holds.rest j l);
            ringed = s.ringed;
            contents = contents_kept;
            enough = omega (arith, A.holds.enough, s.long);
          }

      pub take_yes : Takes f rows i r mem (Ok tt) arrived mem'
      take_yes =
          record {
            taken = taken_to s.acted ∙ ap (λ c. some (record { control = c; queues = rings mem' hs ls f.queues.count })) led;
            fitting = rings_fit (ringed_rings A.queues s.ringed (omega (arith, A.holds.enough, s.long)));
            holds = arrived_holds;
            past = s.past;
            long = s.long;
          }

    -- THE ROW'S ACTION, whichever queues the row is of: the machines' states stayed
    pub acts_refused : (why : Untaken) {r' : RunRecord} {mem' : List ℕ} → Acts rows row r mem (Err why) r' mem' → Takes f rows i r mem (Err why) r' mem'
    acts_refused NotPossible {r'} {mem'} P =
        subst (λ ss. Takes f rows i r mem (Err NotPossible) (run_of ss r'.heads r'.lengths) mem') (sym P.states)
        (take_refused (P.shifts f.queues row_shiftable))
    acts_refused NoRoom {r'} {mem'} P =
        subst (λ ss. Takes f rows i r mem (Err NoRoom) (run_of ss r'.heads r'.lengths) mem') (sym P.states)
        (take_full (P.shifts f.queues row_shiftable))

    pub acts_yes : {r' : RunRecord} {mem' : List ℕ} → Acts rows row r mem (Ok tt) r' mem'
        → Takes f rows i r mem (Ok tt) (run_of (set r'.states (machine_at rows row) (to_at rows row)) r'.heads r'.lengths) mem'
    acts_yes {r'} {mem'} P =
        subst (λ ss. Takes f rows i r mem (Ok tt) (run_of (set ss (machine_at rows row) (to_at rows row)) r'.heads r'.lengths) mem') (sym P.states)
        (take_yes (P.shifts f.queues row_shiftable))
