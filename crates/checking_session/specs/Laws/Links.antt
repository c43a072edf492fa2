-- The items from a place on are the one there and those after it: each loop over items goes by such a law, and ends by one.
use Rattle.std.specs.Prelude.{ℕ, ◌+◌, ◌-◌, ◌*◌, ◌≤◌, ◌<◌, ◌≡◌, List, [], ◌∷◌, ◌++◌}
use Rattle.std.proofs.Common.{sym, subst, ◌∙◌, arith}
use Rattle.std.proofs.Math.Path.{ap}
use Rattle.tables.specs.Rows.{row_length}
use Rattle.tables.specs.Valid.{MachinesValid}
use Rattle.tables.specs.declared.head.Head.{Head}
use Rattle.tables.specs.declared.tables.Tables.{Tables}
use Rattle.theory_model.specs.Model.{Model, controls}
use Rattle.theory_model.specs.Session.{Session}
use Rattle.theory_model.specs.Verdict.{Item, Reply, closed, entry, steps_at, entries_from}
use Rattle.theory_model.specs.Judge.{decide}
use Rattle.theory_model.specs.Laws.Deciding.{decide_append, unless_failed}
use Rattle.theory_files.specs.Tables.{session_of, transition_at, entry_at}
use Rattle.theory_files.specs.Laws.Lookup.{controls_are}
use Rattle.theory_files.specs.Laws.Rows.{transitions_length, entries_length}
use Rattle.checking_cursor.specs.Left.{steps_on, steps_left, from_step, from_entry}
use Rattle.checking_cursor.specs.Laws.Left.{steps_split, steps_none, controls_split, controls_none, entry_here, entry_none}
use Rattle.checking_cursor.specs.Laws.Standing.{transition_in, entry_item}

-- what is small of tables
abbrev pub head_of : Tables → Head
head_of T =
    record {
      machines = T.machines;
      queues = T.queues;
      transitions = T.transitions.count;
      states = T.pool.count;
      bad = T.bad.count;
    }

module _ (T : Tables) where
  abbrev S : Session
  S = session_of T

  abbrev M : Model
  M = S.model

  abbrev after : List Item → ℕ → Reply
  after is n = decide S is n

  parted : {is : List Item} (these rest : List Item) (n : ℕ) → is ≡ these ++ rest → after is n ≡ unless_failed (after these n) (after rest)
  parted these rest n e = ap (λ l. after l n) e ∙ decide_append S these rest n

  over : {is : List Item} (n : ℕ) → is ≡ [] → after is n ≡ closed n
  unfolding decide
  over n e = ap (λ l. after l n) e

  -- TRANSITIONS of a control state
  pub turn_link : (c i n : ℕ) → i < T.transitions.count
      → after (steps_on M c i) n ≡ unless_failed (after (steps_at M c i (transition_at T.transitions.rows (i * row_length) ∷ [])) n) (after (steps_on M c (i + 1)))
  turn_link c i n h = parted (steps_at M c i (transition_at T.transitions.rows (i * row_length) ∷ [])) (steps_on M c (i + 1)) n (steps_split M c i (transition_in (head_of T) T.transitions.rows i h))

  pub turn_end : (c i n : ℕ) → T.transitions.count ≤ i → after (steps_on M c i) n ≡ closed n
  turn_end c i n h = over n (steps_none M c i (omega (arith, transitions_length T.transitions.rows T.transitions.count 0)))

  -- CONTROL STATES
  pub control_link : MachinesValid T.machines → (c i n : ℕ) → c < T.machines.product
      → after (steps_left M c i (controls M - c)) n
      ≡ unless_failed (after (steps_on M c i) n) (after (steps_left M (c + 1) 0 (controls M - (c + 1))))
  control_link v c i n h = parted (steps_on M c i) (steps_left M (c + 1) 0 (controls M - (c + 1))) n (controls_split M c i (subst (λ k. c < k) (sym (controls_are v)) h))

  pub control_end : MachinesValid T.machines → (c i n : ℕ) → T.machines.product ≤ c → after (steps_left M c i (controls M - c)) n ≡ closed n
  control_end v c i n h = over n (controls_none M c i (subst (λ k. k ≤ c) (sym (controls_are v)) h))

  -- the steps, and the bad entries after them
  pub steps_link : (c i n : ℕ) → after (from_step S c i) n ≡ unless_failed (after (steps_left M c i (controls M - c)) n) (after (from_entry S 0))
  steps_link c i n = decide_append S (steps_left M c i (controls M - c)) (entries_from 0 S.bad) n

  -- BAD ENTRIES
  pub entry_link : (b n : ℕ) → b < T.bad.count
      → after (from_entry S b) n ≡ unless_failed (after (entry b (entry_at T.bad.rows b) ∷ []) n) (after (from_entry S (b + 1)))
  entry_link b n h =
      parted (entry b (entry_at T.bad.rows b) ∷ []) (from_entry S (b + 1)) n (entry_here S b (entry_item (head_of T) T.transitions.rows T.pool.finals T.pool.arcs T.map.roots T.bad.rows b h))

  pub entry_end : (b n : ℕ) → T.bad.count ≤ b → after (from_entry S b) n ≡ closed n
  entry_end b n h = over n (entry_none S b (omega (arith, entries_length T.bad.rows T.bad.count 0)))
