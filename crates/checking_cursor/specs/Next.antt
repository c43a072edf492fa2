-- What finding the next item asks and promises.
use Rattle.std.specs.Prelude.{ℕ, ◌*◌, ◌≤◌, ◌<◌, ◌≡◌, true, Option, Some, None, List}
use Rattle.tables.specs.Limits.{most_bad}
use Rattle.tables.specs.Rows.{row_length}
use Rattle.tables.specs.Valid.{MachinesValid, TransitionsValid}
use Rattle.tables.specs.declared.head.Head.{Head}
use Rattle.theory_model.specs.Model.{is_at}
use Rattle.theory_model.specs.Session.{Session}
use Rattle.theory_model.specs.Verdict.{Item}
use Rattle.theory_files.specs.Tables.{transition_at}
use Rattle.checking_cursor.specs.Left.{steps_on, left, model_in, Over, Stands, place_of}
use Rattle.checking_cursor.specs.declared.cursor.Cursor.{Cursor}

-- WHAT IS ASKED of what is lent: it is of tables that were read
pub record Movable (h : Head) (rows : List ℕ) : Type 0 where
  pub machines : MachinesValid h.machines
  pub transitions : TransitionsValid h.machines h.queues (record { count = h.transitions; rows = rows })
  pub bad : h.bad ≤ most_bad

-- how far a search through the transitions has come: to the one that was found, or past all
abbrev pub sought_to : Head → Option ℕ → ℕ
sought_to h (Some i) = i
sought_to h None = h.transitions

-- the first transition from a number on whose machine is in the from-state
pub record Sought (h : Head) (rows : List ℕ) (c first : ℕ) (r : Option ℕ) : Type 0 where
  pub least : first ≤ sought_to h r
  pub passed : steps_on (model_in h rows) c first ≡ steps_on (model_in h rows) c (sought_to h r)
  pub at : (i : ℕ) → r ≡ Some i → (i < h.transitions) × (is_at (model_in h rows) c (transition_at rows (i * row_length)) ≡ true)

-- THE CURSOR FOUND: these are the items from it on, it stands, and it has come so far at least
pub record Found (h : Head) (rows : List ℕ) (these : Session → List Item) (past : ℕ) (r : Option Cursor) : Type 0 where
  pub is : (S : Session) → Over h rows S → these S ≡ left S r
  pub stands : Stands h rows r
  pub further : past ≤ place_of r
