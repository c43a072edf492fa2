-- What each function over items promises: the reply of the session's own items, after items with so many pairs.
use Rattle.std.specs.Prelude.{ℕ, ◌+◌, ◌*◌, ◌-◌, Option, Result, List, [], ◌∷◌}
use Rattle.tables.specs.Rows.{row_length}
use Rattle.tables.specs.declared.tables.Tables.{Tables}
use Rattle.theory_model.specs.Model.{controls}
use Rattle.theory_model.specs.Verdict.{Item, entry, steps_at}
use Rattle.theory_model.specs.Judge.{decide}
use Rattle.theory_files.specs.Tables.{session_of, transition_at, entry_at}
use Rattle.checking_pairs.specs.Pairs.{most_codes}
use Rattle.checking_cursor.specs.Left.{steps_on, steps_left, from_step, from_entry, left, here}
use Rattle.checking_cursor.specs.declared.cursor.Cursor.{Cursor}
use Rattle.checking_items.specs.Promises.{Memory}
use Rattle.checking_session.specs.Judges.{ample_pairs, pairs_before, pairs_to_entry, Judges}
use Rattle.verdicts.specs.declared.verdict.Failing.{Failing}

-- THESE ITEMS of the tables' session, with no more pairs than this
abbrev pub ItemsJudged : ℕ → Tables → List Item → ℕ → List ℕ → Result ℕ Failing → Memory → Type 0
ItemsJudged most T is pairs contents r M =
    Judges most (decide (session_of T) is pairs) contents r M.contents M.seen M.queue

-- TRANSITION i at control state c, an item or none
abbrev pub TurnJudged : Tables → ℕ → ℕ → ℕ → List ℕ → Result ℕ Failing → Memory → Type 0
TurnJudged T c i pairs = ItemsJudged (pairs + most_codes) T (steps_at (session_of T).model c i (transition_at T.transitions.rows (i * row_length) ∷ [])) pairs

-- THE STEPS of control state c from transition i on
abbrev pub ControlJudged : Tables → ℕ → ℕ → ℕ → List ℕ → Result ℕ Failing → Memory → Type 0
ControlJudged T c i pairs = ItemsJudged (pairs_before (c + 1) 0) T (steps_on (session_of T).model c i) pairs

-- THE STEPS from there on, and with the bad entries after them
abbrev pub StepsJudged : Tables → ℕ → ℕ → ℕ → List ℕ → Result ℕ Failing → Memory → Type 0
StepsJudged T c i pairs =
    ItemsJudged (pairs_to_entry 0) T (steps_left (session_of T).model c i (controls (session_of T).model - c)) pairs

abbrev pub FromStepJudged : Tables → ℕ → ℕ → ℕ → List ℕ → Result ℕ Failing → Memory → Type 0
FromStepJudged T c i pairs = ItemsJudged ample_pairs T (from_step (session_of T) c i) pairs

-- BAD ENTRY b, and those from it on
abbrev pub OneJudged : Tables → ℕ → ℕ → List ℕ → Result ℕ Failing → Memory → Type 0
OneJudged T b pairs = ItemsJudged (pairs + most_codes) T (entry b (entry_at T.bad.rows b) ∷ []) pairs

abbrev pub EntriesJudged : Tables → ℕ → ℕ → List ℕ → Result ℕ Failing → Memory → Type 0
EntriesJudged T b pairs = ItemsJudged ample_pairs T (from_entry (session_of T) b) pairs

-- THE ITEM at the cursor, and all items from it on
abbrev pub AtJudged : Tables → Option Cursor → ℕ → List ℕ → Result ℕ Failing → Memory → Type 0
AtJudged T at pairs = ItemsJudged (pairs + most_codes) T (here T.transitions.rows T.bad.rows at) pairs

abbrev pub FromJudged : Tables → Option Cursor → ℕ → List ℕ → Result ℕ Failing → Memory → Type 0
FromJudged T at pairs = ItemsJudged ample_pairs T (left (session_of T) at) pairs
