-- Seeking comes to the next step, goes on to the next control state, or comes to the bad entries.
-- These stand here and not in specs/ because a must-fail edit of the order of what is left takes their ground away.
use Rattle.std.specs.Prelude.{ℕ, ◌+◌, ◌*◌, ◌≤◌, ◌<◌, ◌≡◌, Option, Some, None, List, []}
use Rattle.std.proofs.Common.{sym, ap, subst, ◌∙◌, arith}
use Rattle.tables.specs.Limits.{most_transitions}
use Rattle.tables.specs.declared.head.Head.{Head}
use Rattle.tables.specs.declared.kinds.ControlState.{ControlState}
use Rattle.theory_model.specs.Session.{Session}
use Rattle.theory_files.specs.Laws.Rows.{transitions_length}
use Rattle.checking_cursor.specs.Left.{steps_on, from_step, from_entry, model_in, Over, most_steps}
use Rattle.checking_cursor.specs.Next.{Movable, Sought, sought_to, Found}
use Rattle.checking_cursor.specs.Laws.Left.{steps_none, from_none}
use Rattle.checking_cursor.specs.Laws.Seeking.{over_controls, Seeking}
use Rattle.checking_cursor.proofs.Left.{from_same, from_next}
use Rattle.checking_cursor.specs.declared.cursor.Cursor.{Cursor}
use Rattle.checking_cursor.specs.declared.cursor.Cursor.TheVariants.{Step}

module _ {h : Head} {rows : List ℕ} (m : Movable h rows) {from first c i : ℕ} (k : Seeking h rows from first c i) where
  module _ (d : ControlState) {r : Option ℕ} (s : Sought h rows d.0 i r) (e : d.0 ≡ c) (l : c < h.machines.product) where
    -- up to the transition that was sought
    sought_at : (S : Session) → Over h rows S → from_step S from first ≡ from_step S c (sought_to h r)
    sought_at S o =
        k.is S o
        ∙ from_same S c i (subst (λ n. c < n) (sym (over_controls m.machines o)) l) (sought_to h r)
        (subst (λ M. steps_on M c i ≡ steps_on M c (sought_to h r)) (sym o.model) (subst (λ n. steps_on (model_in h rows) n i ≡ steps_on (model_in h rows) n (sought_to h r)) e s.passed))

    pub seek_step : (t : ℕ) → r ≡ Some t → Found h rows (λ S. from_step S from first) (1 + (from * most_transitions + first)) (Some (Step d t))
    seek_step t z =
        let n : sought_to h r ≡ t = ap (sought_to h) z in
        record {
          is = λ S o. sought_at S o ∙ ap (from_step S c) n ∙ ap (λ n. from_step S n t) (sym e);
          stands = record { stands = (subst (λ n. n < h.machines.product) (sym e) l, (s.at t z).0, (s.at t z).1) };
          further = omega (arith, k.further, s.least, n);
        }

    -- no step is left in this control state
    pub seek_on : r ≡ None → Seeking h rows from first (c + 1) 0
    seek_on z =
        let n : sought_to h r ≡ h.transitions = ap (sought_to h) z in
        record {
          is =
              λ S o.
              sought_at S o
              ∙ ap (from_step S c) n
              ∙ from_next S c h.transitions (subst (λ n. c < n) (sym (over_controls m.machines o)) l)
              (subst (λ M. steps_on M c h.transitions ≡ []) (sym o.model) (steps_none (model_in h rows) c h.transitions (omega (arith, transitions_length rows h.transitions 0))));
          most = omega arith;
          place = omega (arith, m.machines.product_most);
          further = omega (arith, k.further, k.most, m.transitions.most);
        }

  -- no step is left at all
  pub seek_entries : h.machines.product ≤ c → {r : Option Cursor} → Found h rows (λ S. from_entry S 0) (1 + most_steps) r
      → Found h rows (λ S. from_step S from first) (1 + (from * most_transitions + first)) r
  seek_entries l f =
      record {
        is = λ S o. k.is S o ∙ from_none S c i (subst (λ n. n ≤ c) (sym (over_controls m.machines o)) l) ∙ f.is S o;
        stands = f.stands;
        further = omega (arith, f.further, k.further, k.place);
      }
