-- Finding the next item: what is passed over holds none.
use Rattle.std.specs.Prelude.{ℕ, ◌+◌, ◌*◌, ◌≤◌, ◌<◌, ◌≡◌, refl, false, Option, Some, None, List}
use Rattle.std.proofs.Common.{sym, ap, subst, ◌∙◌, arith}
use Rattle.tables.specs.Limits.{most_transitions, most_bad}
use Rattle.tables.specs.Rows.{row_length}
use Rattle.tables.specs.Valid.{MachinesValid}
use Rattle.tables.specs.declared.head.Head.{Head}
use Rattle.theory_model.specs.Model.{controls, is_at}
use Rattle.theory_model.specs.Session.{Session}
use Rattle.theory_files.specs.Tables.{transition_at}
use Rattle.theory_files.specs.Laws.Lookup.{controls_are}
use Rattle.checking_cursor.specs.Left.{steps_on, from_step, from_entry, later, model_in, Over, most_steps, past_of}
use Rattle.checking_cursor.specs.Next.{Movable, Found}
use Rattle.checking_cursor.specs.Laws.Left.{steps_over, entry_none}
use Rattle.checking_cursor.specs.Laws.Standing.{transition_in}
use Rattle.checking_cursor.specs.declared.cursor.Cursor.{Cursor}
use Rattle.checking_cursor.specs.declared.cursor.Cursor.TheVariants.{Entry}

-- TRANSITIONS of one control state: a transition is passed over
pub passes_over : (h : Head) (rows : List ℕ) (c first i : ℕ) → i < h.transitions
    → is_at (model_in h rows) c (transition_at rows (i * row_length)) ≡ false
    → steps_on (model_in h rows) c first ≡ steps_on (model_in h rows) c i → steps_on (model_in h rows) c first ≡ steps_on (model_in h rows) c (i + 1)
passes_over h rows c first i l a e = e ∙ steps_over (model_in h rows) c i (transition_in h rows i l) a

-- how many control states such a session has
pub over_controls : {h : Head} {rows : List ℕ} {S : Session} → MachinesValid h.machines → Over h rows S → controls S.model ≡ h.machines.product
over_controls m o = ap controls o.model ∙ controls_are m

-- SEEKING: the items from here on are those from the first place on, and it has come as far
pub record Seeking (h : Head) (rows : List ℕ) (from first c i : ℕ) : Type 0 where
  pub is : (S : Session) → Over h rows S → from_step S from first ≡ from_step S c i
  pub most : i ≤ h.transitions
  pub place : c * most_transitions + i ≤ most_steps
  pub further : from * most_transitions + first ≤ c * most_transitions + i

pub seek_begins : {h : Head} {rows : List ℕ} → Movable h rows → (from first : ℕ) → from < h.machines.product → first ≤ h.transitions
    → Seeking h rows from first from first
seek_begins m from first l k =
    record { is = λ S o. refl; most = k; place = omega (arith, m.machines.product_most, m.transitions.most); further = omega arith }

-- BAD ENTRIES: one, or the end
pub entry_found : (h : Head) (b : ℕ) → b < h.bad → (rows : List ℕ) → Found h rows (λ S. from_entry S b) (1 + most_steps + b) (Some (Entry b))
entry_found h b l rows = record { is = λ S o. refl; stands = record { stands = l }; further = omega arith }

pub end_found : (h : Head) (b : ℕ) → b ≤ most_bad → h.bad ≤ b → (rows : List ℕ) → Found h rows (λ S. from_entry S b) (1 + most_steps + b) None
end_found h b l k rows =
    record { is = λ S o. entry_none S b (omega (arith, o.bad)); stands = record { stands = tt }; further = omega arith }

-- nothing was found, and so it is none
pub none_found : {A : Type 0} (r : Option A) → ((x : A) → r ≡ Some x → ⊥) → r ≡ None
none_found None k = refl
none_found (Some x) k = absurd (k x refl)

-- after the end comes nothing
pub after_end : (h : Head) (rows : List ℕ) → Found h rows (λ S. later S None) (past_of None) None
after_end h rows = record { is = λ S o. refl; stands = record { stands = tt }; further = omega arith }

-- what is found after a cursor is found after the case that it is
pub found_at : {h : Head} {rows : List ℕ} {at : Option Cursor} (b : Option Cursor) → at ≡ b → {r : Option Cursor} → Found h rows (λ S. later S b) (past_of b) r
    → Found h rows (λ S. later S at) (past_of at) r
found_at {h} {rows} b e {r} f = subst (λ a. Found h rows (λ S. later S a) (past_of a) r) (sym e) f
