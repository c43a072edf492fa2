-- The items from a cursor on, in the session's own list; where a cursor may stand, and how far it has come there.
use Rattle.std.specs.Prelude.{ℕ, zero, suc, ◌+◌, ◌-◌, ◌*◌, ◌<◌, ◌≡◌, Bool, true, false, Option, Some, None, List, [], ◌∷◌, ◌++◌, length, drop}
use Rattle.tables.specs.Limits.{most_controls, most_transitions, most_bad}
use Rattle.tables.specs.Rows.{row_length}
use Rattle.tables.specs.declared.head.Head.{Head}
use Rattle.theory_model.specs.Model.{Model, controls, is_at}
use Rattle.theory_model.specs.Session.{Session}
use Rattle.theory_model.specs.Verdict.{Item, start, step, entry, steps_at, steps_from, entries_from, items}
use Rattle.theory_files.specs.Tables.{model_of, transition_at, entry_at}
use Rattle.checking_cursor.specs.declared.cursor.Cursor.{Cursor}
use Rattle.checking_cursor.specs.declared.cursor.Cursor.TheVariants.{Start, Step, Entry}

-- the steps of control state c from transition i on; and with them those of n control states from c on
abbrev pub steps_on : Model → ℕ → ℕ → List Item
steps_on M c i = steps_at M c i (drop i M.transitions)

abbrev pub steps_left : Model → ℕ → ℕ → ℕ → List Item
steps_left M c i zero = []
steps_left M c i (suc n) = steps_on M c i ++ steps_from M (suc c) n

-- from a step on, and from a bad entry on
abbrev pub from_step : Session → ℕ → ℕ → List Item
from_step S c i = steps_left S.model c i (controls S.model - c) ++ entries_from 0 S.bad

abbrev pub from_entry : Session → ℕ → List Item
from_entry S b = entries_from b (drop b S.bad)

-- THE ITEMS FROM THE CURSOR ON
abbrev pub left : Session → Option Cursor → List Item
left S (Some Start) = items S
left S (Some (Step c i)) = from_step S c.0 i
left S (Some (Entry b)) = from_entry S b
left S None = []

-- those after the one that it stands at
abbrev pub later : Session → Option Cursor → List Item
later S (Some Start) = from_step S 0 0
later S (Some (Step c i)) = from_step S c.0 (i + 1)
later S (Some (Entry b)) = from_entry S (b + 1)
later S None = []

-- THE ITEM that it stands at, from the rows of the transitions and of the bad entries; none at the end
abbrev pub here : List ℕ → List ℕ → Option Cursor → List Item
here rows entries (Some Start) = start ∷ []
here rows entries (Some (Step c i)) = step c.0 i (transition_at rows (i * row_length)) ∷ []
here rows entries (Some (Entry b)) = entry b (entry_at entries b) ∷ []
here rows entries None = []

-- is there an item where it stands?
abbrev pub goes : Option Cursor → Bool
goes (Some Start) = true
goes (Some (Step c i)) = true
goes (Some (Entry b)) = true
goes None = false

-- THE MODEL of a head and its rows, and the sessions that have it and as many bad entries
abbrev pub model_in : Head → List ℕ → Model
model_in h rows = model_of h.machines h.queues (record { count = h.transitions; rows = rows })

pub record Over (h : Head) (rows : List ℕ) (S : Session) : Type 0 where
  pub model : S.model ≡ model_in h rows
  pub bad : length S.bad ≡ h.bad

-- A CURSOR STANDS at an item of such sessions, or at the end
abbrev pub StandsAt : Head → List ℕ → Option Cursor → Type 0
StandsAt h rows (Some Start) = Unit {0}
StandsAt h rows (Some (Step c i)) =
    (c.0 < h.machines.product)
    × (i < h.transitions)
    × (is_at (model_in h rows) c.0 (transition_at rows (i * row_length)) ≡ true)
StandsAt h rows (Some (Entry b)) = b < h.bad
StandsAt h rows None = Unit {0}

pub record Stands (h : Head) (rows : List ℕ) (at : Option Cursor) : Type 0 where
  pub stands : StandsAt h rows at

-- HOW FAR IT HAS COME: no fewer than the items before it, as if every machine were in every from-state
abbrev pub most_steps : ℕ
most_steps = most_controls * most_transitions

abbrev pub most_items : ℕ
most_items = 1 + most_steps + most_bad

abbrev pub place_of : Option Cursor → ℕ
place_of (Some Start) = 0
place_of (Some (Step c i)) = 1 + (c.0 * most_transitions + i)
place_of (Some (Entry b)) = 1 + most_steps + b
place_of None = most_items

-- and past the item where it stands
abbrev pub past_of : Option Cursor → ℕ
past_of (Some Start) = 1
past_of (Some (Step c i)) = 1 + (c.0 * most_transitions + (i + 1))
past_of (Some (Entry b)) = 1 + most_steps + (b + 1)
past_of None = 0
