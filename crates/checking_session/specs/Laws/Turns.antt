-- One transition at a control state: it is passed over, its step passes, or its step fails.
use Rattle.std.specs.Prelude.{ℕ, ◌+◌, ◌*◌, ◌≤◌, ◌≡◌, refl, Bool, true, false, Result, Ok, Err, length, take}
use Rattle.std.proofs.Math.Path.{sym, ap, subst}
use Rattle.std.proofs.Common.{◌∙◌, arith}
use mathlib.Core.List.{List, [], ◌∷◌}
use Rattle.tables.specs.Rows.{row_length}
use Rattle.tables.specs.Valid.{RowValid}
use Rattle.tables.specs.declared.kinds.ControlState.{ControlState}
use Rattle.tables.specs.declared.tables.Tables.{Tables}
use Rattle.theory_model.specs.Model.{Transition}
use Rattle.theory_model.specs.Session.{Session}
use Rattle.theory_model.specs.Verdict.{Item, leaves, step, steps_at}
use Rattle.theory_model.specs.Judge as Model
use Rattle.theory_model.specs.Judge.{decide}
use Rattle.theory_model.specs.Searched.{judge_by_search}
use Rattle.theory_model.specs.Laws.Items.{IsItem, step_here, step_not_here}
use Rattle.theory_model.specs.Laws.Deciding.{decide_passes, decide_fails}
use Rattle.theory_files.specs.Tables.{session_of, transition_at}
use Rattle.tables.specs.Limits.{contents_least}
use Rattle.controls.specs.Controls.{IsAt}
use Rattle.following.specs.After.{ContentsAt}
use Rattle.checking_pairs.specs.Pairs.{most_codes}
use Rattle.checking_walk.specs.declared.judge.Shown.{Shown}
use Rattle.checking_cursor.specs.Laws.Standing.{step_item}
use Rattle.checking_items.specs.Judging.{Scratch, Judging, StepOf}
use Rattle.checking_items.specs.Far.{FarFound}
use Rattle.checking_items.specs.Laws.Far.{shown_between}
use Rattle.checking_items.specs.Laws.Judge.{judged_item}
use Rattle.checking_session.specs.Judges.{Judges, TurnAsked}
use Rattle.checking_session.specs.Laws.Links.{head_of}
use Rattle.checking_session.specs.Laws.Sequence.{kept_all}
use Rattle.verdicts.specs.declared.verdict.Failing.TheVariants.{Leaves}

module _ {T : Tables} (c : ControlState) {i : ℕ} (a : TurnAsked T c.0 i) where
  abbrev S : Session
  S = session_of T

  abbrev τ : Transition
  τ = transition_at T.transitions.rows (i * row_length)

  abbrev turn : List Item
  turn = steps_at S.model c.0 i (τ ∷ [])

  abbrev At : Bool → Type 0
  At b = IsAt T.machines T.transitions.rows (i * row_length) c.0 b

  pub turn_row : RowValid T.machines T.queues T.transitions.rows (i * row_length)
  turn_row = a.valid.transitions.row i a.within

  pub turn_long : (i * row_length) + row_length ≤ length T.transitions.rows
  turn_long = omega (arith, a.within, a.valid.transitions.most, a.valid.transitions.long)

  pub turn_none : At false → (pairs : ℕ) {contents seen queue : List ℕ} → Scratch seen queue
      → Judges (pairs + most_codes) (decide S turn pairs) contents (Ok pairs) contents seen queue
  unfolding decide
  turn_none e pairs s =
      record {
        is = sym (ap (λ is. decide S is pairs) (step_not_here S.model c.0 i τ [] (sym e)));
        few = omega arith;
        kept = kept_all;
        scratch = s;
      }

  module _ (e : At true) where
    item : IsItem S (step c.0 i τ)
    item =
        step_item (head_of T) T.transitions.rows T.pool.finals T.pool.arcs T.map.roots T.bad.rows a.valid.machines c i
        (record { stands = (a.control, a.within, sym e) })

    pub step_of : StepOf T c.0 (i * row_length)
    step_of = record { number = i; within = a.within; place = refl; control = a.control; item = item }

    pub turn_is : turn ≡ step c.0 i τ ∷ []
    turn_is = step_here S.model c.0 i τ [] (sym e)

    module _ (pairs : ℕ) (contents contents₁ seen₁ queue₁ : List ℕ) where
      abbrev Step : Result ℕ Shown → Type 0
      Step r = Judging (judge_by_search S most_codes (step c.0 0 τ)) contents r contents₁ seen₁ queue₁

      judged : {o : Model.Judged} → o ≡ judge_by_search S most_codes (step c.0 0 τ) → Model.judge S (step c.0 i τ) ≡ o
      unfolding judge_by_search
      judged e = judged_item T a.valid (step c.0 i τ) item ∙ sym e

      pub turn_passes : (r : Result ℕ Shown) (more : ℕ) → r ≡ Ok more → Step r
          → Judges (pairs + most_codes) (decide S turn pairs) contents (Ok (pairs + more)) contents₁ seen₁ queue₁
      unfolding decide
      turn_passes r more z j =
          let k = subst Step z j in
          record {
            is = sym (ap (λ is. decide S is pairs) turn_is ∙ decide_passes S (step c.0 i τ) [] pairs more (judged k.is));
            few = omega (arith, k.few);
            kept = k.kept;
            scratch = k.scratch;
          }

      pub turn_fails : (r : Result ℕ Shown) (shown : Shown) (far : ℕ) → r ≡ Err shown → Step r → FarFound T c.0 (i * row_length) contents₁ shown.0 far
          → Judges (pairs + most_codes) (decide S turn pairs) contents (Err (Leaves c i shown.0 far)) contents₁ seen₁ queue₁
      turn_fails r shown far z j f =
          let k = subst Step z j in
          record {
            is =
                ap (λ n. leaves c.0 i (take shown.0 contents₁) n) f.is
                ∙ sym (ap (λ is. decide S is pairs) turn_is ∙ decide_fails S (step c.0 i τ) [] pairs (take shown.0 contents₁) (judged k.is));
            few = omega arith;
            kept = k.kept;
            scratch = k.scratch;
          }

      -- what is asked of the contents shown
      pub turn_contents : (r : Result ℕ Shown) (shown : Shown) → r ≡ Err shown → Step r → contents_least ≤ length contents → ContentsAt contents₁ shown.0
      turn_contents r shown z j room =
          let k = subst Step z j in
          record {
            within = omega (arith, k.kept.long);
            most = k.most;
            messages = shown_between T a.valid c.0 i τ (take shown.0 contents₁) item (sym k.is);
          }
