-- The start, and what is judged at a cursor and from it on.
use Rattle.std.specs.Prelude.{ℕ, ◌*◌, ◌≤◌, ◌≡◌, true, false, Option, Some, None, Result, Ok, Err}
use Rattle.std.proofs.Common.{sym, subst, ◌∙◌, arith, add-zero}
use Rattle.std.proofs.Math.Path.{ap}
use mathlib.Core.List.{List, [], ◌∷◌}
use Rattle.tables.specs.Starting.{starting_of}
use Rattle.tables.specs.Rows.{row_length}
use Rattle.tables.specs.declared.kinds.ControlState.{ControlState}
use Rattle.tables.specs.declared.tables.Tables.{Tables}
use Rattle.reading_file.specs.Valid.{Valid}
use Rattle.theory_model.specs.Diagram.{word}
use Rattle.theory_model.specs.Session.{Session}
use Rattle.theory_model.specs.Verdict.{Item, Reply, start, closed, outside, steps_at}
use Rattle.theory_model.specs.Judge.{judge, decide}
use Rattle.theory_model.specs.Laws.Deciding.{decide_passes, decide_fails}
use Rattle.theory_files.specs.Tables.{session_of, transition_at}
use Rattle.checking_pairs.specs.Pairs.{most_codes}
use Rattle.checking_cursor.specs.Left.{from_step, left, here, Stands, place_of}
use Rattle.checking_cursor.specs.Laws.Left.{items_are}
use Rattle.checking_cursor.specs.Laws.Standing.{stands_at_lem}
use Rattle.checking_cursor.specs.declared.cursor.Cursor.{Cursor}
use Rattle.checking_cursor.specs.declared.cursor.Cursor.TheVariants.{Start, Step}
use Rattle.checking_items.specs.Begin.{begins_inside}
use Rattle.checking_items.specs.Judging.{Scratch}
use Rattle.checking_session.specs.Judges.{Judges, TurnAsked, StepsAsked}
use Rattle.checking_session.specs.Laws.Links.{head_of}
use Rattle.checking_session.specs.Laws.Sequence.{kept_all}
use Rattle.checking_session.specs.Laws.Turns.{turn_is}
use Rattle.verdicts.specs.declared.verdict.Failing.{Failing}
use Rattle.verdicts.specs.declared.verdict.Failing.TheVariants.{Outside}

-- THE START
module _ (T : Tables) (is : List Item) (n : ℕ) where
  abbrev S : Session
  S = session_of T

  start_passes : begins_inside T ≡ true → decide S (start ∷ is) n ≡ decide S is n
  unfolding judge
  start_passes e = decide_passes S start is n 0 (rw (e, judge)) ∙ ap (decide S is) (add-zero n)

  start_fails : begins_inside T ≡ false → decide S (start ∷ is) n ≡ outside
  unfolding judge
  start_fails e = decide_fails S start is n (word (starting_of T.queues)) (rw (e, judge))

-- as many pairs as a case allows
pub pairs_at : {at : Option Cursor} (b : Option Cursor) → at ≡ b → {pairs : ℕ} → pairs ≤ most_codes * place_of at → pairs ≤ most_codes * place_of b
pairs_at b e {pairs} l = subst (λ x. pairs ≤ most_codes * place_of x) e l

-- nothing was judged but this, and nothing written
judged_closed : {most pairs : ℕ} {o : Reply} {contents seen queue : List ℕ} → Scratch seen queue → o ≡ closed pairs → pairs ≤ most
    → Judges most o contents (Ok pairs) contents seen queue
judged_closed s e l = record { is = sym e; few = l; kept = kept_all; scratch = s }

judged_outside : {most : ℕ} {o : Reply} {contents seen queue : List ℕ} → Scratch seen queue → o ≡ outside
    → Judges most o contents (Err Outside) contents seen queue
judged_outside s e = record { is = sym e; few = omega arith; kept = kept_all; scratch = s }

judges_as : {most : ℕ} {o x : Reply} {contents : List ℕ} {r : Result ℕ Failing} {contents₁ seen₁ queue₁ : List ℕ} → o ≡ x
    → Judges most o contents r contents₁ seen₁ queue₁ → Judges most x contents r contents₁ seen₁ queue₁
judges_as e j = record { is = j.is ∙ e; few = j.few; kept = j.kept; scratch = j.scratch }

module _ (T : Tables) (v : Valid T) (at : Option Cursor) (pairs : ℕ) where
  abbrev this : List Item
  this = here T.transitions.rows T.bad.rows at

  abbrev these : List Item
  these = left (session_of T) at

  abbrev reply_to : List Item → Reply
  reply_to is = decide (session_of T) is pairs

  abbrev Standing : Type 0
  Standing = Stands (head_of T) T.transitions.rows at

  -- AT THE START
  module _ (e : at ≡ Some Start) where
    here_start : this ≡ start ∷ []
    here_start = ap (here T.transitions.rows T.bad.rows) e

    left_start : these ≡ start ∷ from_step (session_of T) 0 0
    left_start = ap (left (session_of T)) e ∙ items_are (session_of T)

    pub start_asked : StepsAsked T 0 0
    start_asked = record { valid = v; control = omega (arith, v.machines.product_least); within = omega arith }

    module _ {most : ℕ} {contents seen queue : List ℕ} (s : Scratch seen queue) where
      pub here_outside : begins_inside T ≡ false → Judges most (reply_to this) contents (Err Outside) contents seen queue
      here_outside b = judged_outside s (ap reply_to here_start ∙ start_fails T [] pairs b)

      pub left_outside : begins_inside T ≡ false → Judges most (reply_to these) contents (Err Outside) contents seen queue
      left_outside b = judged_outside s (ap reply_to left_start ∙ start_fails T (from_step (session_of T) 0 0) pairs b)

      pub here_inside : begins_inside T ≡ true → pairs ≤ most → Judges most (reply_to this) contents (Ok pairs) contents seen queue
      unfolding decide
      here_inside b l = judged_closed s (ap reply_to here_start ∙ start_passes T [] pairs b) l

    pub left_inside : begins_inside T ≡ true → {most : ℕ} {contents : List ℕ} {r : Result ℕ Failing} {contents₁ seen₁ queue₁ : List ℕ}
        → Judges most (reply_to (from_step (session_of T) 0 0)) contents r contents₁ seen₁ queue₁ → Judges most (reply_to these) contents r contents₁ seen₁ queue₁
    left_inside b j = judges_as (sym (ap reply_to left_start ∙ start_passes T (from_step (session_of T) 0 0) pairs b)) j

  -- AT A STEP
  module _ (c : ControlState) (i : ℕ) (e : at ≡ Some (Step c i)) (s : Standing) where
    pub turn_asked : TurnAsked T c.0 i
    turn_asked = let (l, k, a) = stands_at_lem (Some (Step c i)) e s in record { valid = v; control = l; within = k }

    pub rest_asked : {from : ℕ} → from ≡ c.0 → StepsAsked T from i
    rest_asked z =
        let (l, k, a) = stands_at_lem (Some (Step c i)) e s in record { valid = v; control = omega (arith, z, l); within = omega (arith, k) }

    module _ {most : ℕ} {contents : List ℕ} {r : Result ℕ Failing} {contents₁ seen₁ queue₁ : List ℕ} where
      pub here_step : Judges most (reply_to (steps_at (session_of T).model c.0 i (transition_at T.transitions.rows (i * row_length) ∷ []))) contents r contents₁ seen₁ queue₁
          → Judges most (reply_to this) contents r contents₁ seen₁ queue₁
      here_step j =
          let (l, k, a) = stands_at_lem (Some (Step c i)) e s in
          judges_as (ap reply_to (turn_is c turn_asked (sym a) ∙ sym (ap (here T.transitions.rows T.bad.rows) e))) j

  module _ {most : ℕ} {contents : List ℕ} {r : Result ℕ Failing} {contents₁ seen₁ queue₁ : List ℕ} where
    -- the items from a case on are those from the cursor that it is
    pub left_as : (b : Option Cursor) → at ≡ b → Judges most (reply_to (left (session_of T) b)) contents r contents₁ seen₁ queue₁
        → Judges most (reply_to these) contents r contents₁ seen₁ queue₁
    left_as b e j = judges_as (sym (ap (λ x. reply_to (left (session_of T) x)) e)) j

    pub here_as : (b : Option Cursor) → at ≡ b → Judges most (reply_to (here T.transitions.rows T.bad.rows b)) contents r contents₁ seen₁ queue₁
        → Judges most (reply_to this) contents r contents₁ seen₁ queue₁
    here_as b e j = judges_as (sym (ap (λ x. reply_to (here T.transitions.rows T.bad.rows x)) e)) j

    pub left_step : (c : ControlState) (i : ℕ) → at ≡ Some (Step c i) → (from : ℕ) → from ≡ c.0
        → Judges most (reply_to (from_step (session_of T) from i)) contents r contents₁ seen₁ queue₁ → Judges most (reply_to these) contents r contents₁ seen₁ queue₁
    left_step c i e from z j =
        judges_as (ap (λ n. reply_to (from_step (session_of T) n i)) z ∙ sym (ap (λ x. reply_to (left (session_of T) x)) e)) j

  -- AT THE END
  module _ (e : at ≡ None) {most : ℕ} {contents seen queue : List ℕ} (s : Scratch seen queue) (l : pairs ≤ most) where
    pub here_end : Judges most (reply_to this) contents (Ok pairs) contents seen queue
    unfolding decide
    here_end = judged_closed s (ap (λ x. reply_to (here T.transitions.rows T.bad.rows x)) e) l

    pub left_end : Judges most (reply_to these) contents (Ok pairs) contents seen queue
    unfolding decide
    left_end = judged_closed s (ap (λ x. reply_to (left (session_of T) x)) e) l
