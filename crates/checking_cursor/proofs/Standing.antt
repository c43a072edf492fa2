-- The item at a cursor comes first, and then the later ones.
-- These stand here and not in specs/ because a must-fail edit of the order of what is left takes their ground away.
use Rattle.std.specs.Prelude.{ℕ, ◌*◌, ◌≡◌, refl, Option, Some, None, List, ◌++◌}
use Rattle.tables.specs.Rows.{row_length}
use Rattle.tables.specs.Valid.{MachinesValid}
use Rattle.tables.specs.declared.head.Head.{Head}
use Rattle.theory_files.specs.Tables.{transition_at}
use Rattle.checking_cursor.specs.Left.{left, later, here, Stands}
use Rattle.checking_cursor.specs.Laws.Left.{steps_here, items_are, entry_here}
use Rattle.checking_cursor.specs.Laws.Standing.{session, step_item, entry_item}
use Rattle.checking_cursor.proofs.Left.{from_here}
use Rattle.checking_cursor.specs.declared.cursor.Cursor.{Cursor}
use Rattle.checking_cursor.specs.declared.cursor.Cursor.TheVariants.{Start, Step, Entry}

module _ (h : Head) (rows finals arcs roots entries : List ℕ) (m : MachinesValid h.machines) where
  -- THE ITEM at the cursor comes first, and then the later ones
  pub left_split : (at : Option Cursor) → Stands h rows at → left (session h rows finals arcs roots entries) at ≡ here rows entries at ++ later (session h rows finals arcs roots entries) at
  left_split (Some Start) s = items_are (session h rows finals arcs roots entries)
  left_split (Some (Step c i)) s =
      let (l, e, a) = step_item h rows finals arcs roots entries m c i s in
      from_here (session h rows finals arcs roots entries) c.0 i l (transition_at rows (i * row_length)) (steps_here (session h rows finals arcs roots entries).model c.0 i e a)
  left_split (Some (Entry b)) s = entry_here (session h rows finals arcs roots entries) b (entry_item h rows finals arcs roots entries b s.stands)
  left_split None s = refl
