-- A cursor that stands: the item there and the items after it are those from it on; and how far it has come.
use Rattle.std.specs.Prelude.{ℕ, ◌+◌, ◌*◌, ◌≤◌, ◌<◌, ◌≡◌, refl, true, false, Option, Some, None, List, []}
use Rattle.std.proofs.Common.{sym, ap, subst, ◌∙◌, arith, zero-add}
use Rattle.std.proofs.Math.Option.{some}
use Rattle.std.proofs.Math.ListN.{get_elem?}
use Rattle.tables.specs.Head.{tables_of}
use Rattle.tables.specs.Rows.{row_length}
use Rattle.tables.specs.Valid.{MachinesValid}
use Rattle.tables.specs.declared.head.Head.{Head}
use Rattle.tables.specs.declared.kinds.ControlState.{ControlState}
use Rattle.reading_file.specs.Valid.{Valid}
use Rattle.theory_model.specs.Session.{Session}
use Rattle.theory_model.specs.Verdict.{step, entry}
use Rattle.theory_model.specs.Laws.Basics.{false_not_true}
use Rattle.theory_model.specs.Laws.Items.{IsItem}
use Rattle.theory_files.specs.Tables.{transition_at, entry_at, session_of}
use Rattle.theory_files.specs.Laws.Lookup.{controls_are}
use Rattle.theory_files.specs.Laws.Rows.{transition_at_lem, entry_at_lem, entries_length}
use Rattle.checking_cursor.specs.Left.{left, goes, model_in, Over, StandsAt, Stands, most_items, place_of, past_of}
use Rattle.checking_cursor.specs.Next.{Movable}
use Rattle.checking_cursor.specs.declared.cursor.Cursor.{Cursor}
use Rattle.checking_cursor.specs.declared.cursor.Cursor.TheVariants.{Start, Step, Entry}

-- transition i of the model
pub transition_in : (h : Head) (rows : List ℕ) (i : ℕ) → i < h.transitions
    → get_elem? (model_in h rows).transitions i ≡ some (transition_at rows (i * row_length))
transition_in h rows i l = transition_at_lem rows h.transitions 0 i l ∙ ap (λ n. some (transition_at rows (n * row_length))) (zero-add i)

-- THE SESSION of tables in parts
module _ (h : Head) (rows finals arcs roots entries : List ℕ) where
  abbrev pub session : Session
  session = session_of (tables_of h rows finals arcs roots entries)

  pub over_tables : Over h rows session
  over_tables = record { model = refl; bad = entries_length entries h.bad 0 }

  pub entry_item : (b : ℕ) → b < h.bad → IsItem session (entry b (entry_at entries b))
  entry_item b l = entry_at_lem entries h.bad 0 b l ∙ ap (λ n. some (entry_at entries n)) (zero-add b)

  -- tables that were read may be moved over
  pub movable : Valid (tables_of h rows finals arcs roots entries) → Movable h rows
  movable v = record { machines = v.machines; transitions = v.transitions; bad = v.bad.most }

  module _ (m : MachinesValid h.machines) where
    pub step_item : (c : ControlState) (i : ℕ) → Stands h rows (Some (Step c i)) → IsItem session (step c.0 i (transition_at rows (i * row_length)))
    step_item c i s =
        let (l, k, a) = s.stands in
        (subst (λ n. c.0 < n) (sym (controls_are m)) l, transition_in h rows i k, a)

-- at the end nothing is left
pub left_end : (S : Session) (at : Option Cursor) → goes at ≡ false → left S at ≡ []
left_end S (Some Start) e = false_not_true e refl
left_end S (Some (Step c i)) e = false_not_true e refl
left_end S (Some (Entry b)) e = false_not_true e refl
left_end S None e = refl

-- what is known of a cursor is known of the case that it is
pub stands_at_lem : {h : Head} {rows : List ℕ} {at : Option Cursor} (b : Option Cursor) → at ≡ b → Stands h rows at → StandsAt h rows b
stands_at_lem {h} {rows} b e s = subst (StandsAt h rows) e s.stands

-- HOW FAR: never past the most items, and past where there is an item
pub place_most : {h : Head} {rows : List ℕ} → Movable h rows → (at : Option Cursor) → Stands h rows at → place_of at ≤ most_items
place_most m (Some Start) s = omega arith
place_most m (Some (Step c i)) s = omega (arith, m.machines.product_most, m.transitions.most, s.stands.0, s.stands.1)
place_most m (Some (Entry b)) s = omega (arith, m.bad, s.stands)
place_most m None s = omega arith

pub past_place : (at : Option Cursor) → goes at ≡ true → place_of at + 1 ≤ past_of at
past_place (Some Start) e = omega arith
past_place (Some (Step c i)) e = omega arith
past_place (Some (Entry b)) e = omega arith
past_place None e = false_not_true refl e
