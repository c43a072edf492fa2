-- What a reply means says what it says of every run: the induction over the run needs no words and no search.
use Rattle.std.specs.Prelude.{◌≡◌, refl, List, [], ◌∷◌, ℕ, suc, ◌<◌, length}
use Rattle.std.proofs.Common.{sym, ap, subst, ◌∙◌, true≢false}
use Rattle.std.proofs.Math.Option.{Option, none, some}
use mathlib.Core.List.Memᴰ
use Rattle.theory_exploration.specs.Mem.{Mem, here, there}
use Rattle.theory_model.specs.Model.{Model, Configuration, Contents, controls, take?, next, begin, run_from}
use Rattle.theory_model.specs.Session.{Session, inside, Inside, Outside, ListedBad, WellFormed}
use Rattle.theory_model.specs.Verdict.{Item, start, step, entry, items, Leaves, Passes, Closed}
use Rattle.theory_model.specs.Laws.Controls.{number_below}
use Rattle.theory_model.specs.Laws.Basics.{by_test}
use Rattle.theory_model.specs.Laws.Items.{IsItem, place_of, at_place, is_item}
use Rattle.theory_model.specs.Laws.Steps.{taken_is, contents_step, moved_below}

-- THE RUN goes on where a step is taken, and stays where none is; it has the start and one configuration after each number
module _ (M : Model) where
  pub next_taken : (t : ℕ) (γ γ' : Configuration) → take? M t γ ≡ some γ' → next M t γ ≡ γ'
  next_taken t γ γ' e = rw (e, next)

  pub next_untaken : (t : ℕ) (γ : Configuration) → take? M t γ ≡ none → next M t γ ≡ γ
  next_untaken t γ e = rw (e, next)

  pub run_length : (ts : List ℕ) (γ : Configuration) → length (run_from M γ ts) ≡ suc (length ts)
  run_length [] γ = refl
  run_length (t ∷ ts) γ = ap suc (run_length ts (next M t γ))

module _ (S : Session) (wf : WellFormed S) where
  -- a configuration of the model that is inside
  pub record Held (γ : Configuration) : Type 0 where
    pub control : γ.control < controls S.model
    pub contents : Contents S.model γ.queues
    pub inside : Inside S γ

  module _ (passes : (i : Item) → Mem i (items S) → Passes S i) where
    pub held_begin : Held (begin S.model)
    held_begin =
        record {
          control = number_below S.model.sizes S.model.starts wf.starts;
          contents = wf.starting;
          inside = by_test (inside S (begin S.model)) (λ t. t) (λ f. absurd (passes start (is_item S start tt) (begin S.model) (refl, f)));
        }

    pub held_taken : (t : ℕ) (γ γ' : Configuration) → Held γ → take? S.model t γ ≡ some γ' → Held γ'
    held_taken t γ γ' H e =
        let T = taken_is S.model t γ γ' e in
        let τ = T.transition in
        let leaving : Outside S γ' → Leaves S γ.control t γ =
        λ f. record { control = refl; contents = H.contents; inside = H.inside; after = γ'; taken = e; outside = f } in
        record {
          control = subst (λ c. c < controls S.model) (sym T.led) (moved_below S wf γ.control τ (at_place S.model.transitions t T.numbered) H.control);
          contents = contents_step S wf t γ γ' T H.contents;
          inside =
              by_test (inside S γ') (λ i. i)
              (λ f. absurd (passes (step γ.control t τ) (is_item S (step γ.control t τ) (H.control, T.numbered, T.placed)) γ (leaving f)));
        }

    held_next : (t : ℕ) (γ : Configuration) → Held γ → Held (next S.model t γ)
    held_next t γ H = by_step (take? S.model t γ) refl
      where
        by_step : (o : Option Configuration) → take? S.model t γ ≡ o → Held (next S.model t γ)
        by_step none e = subst Held (sym (next_untaken S.model t γ e)) H
        by_step (some γ') e = subst Held (sym (next_taken S.model t γ γ' e)) (held_taken t γ γ' H e)

    pub held_run : (ts : List ℕ) (γ₀ γ : Configuration) → Held γ₀ → Mem γ (run_from S.model γ₀ ts) → Held γ
    held_run [] γ₀ γ H (here e) = subst Held (sym e) H
    held_run [] γ₀ γ H (there m) = absurd (Memᴰ.not-nil m)
    held_run (t ∷ ts) γ₀ γ H (here e) = subst Held (sym e) H
    held_run (t ∷ ts) γ₀ γ H (there m) = held_run ts (next S.model t γ₀) γ (held_next t γ₀ H) m

    pub not_bad : (γ : Configuration) → Contents S.model γ.queues → Inside S γ → ListedBad S γ → ⊥
    not_bad γ h i (e, m, l) =
        let (b, g) = place_of m in
        passes (entry b e) (is_item S (entry b e) g) γ (record { contents = h; inside = i; listed = l })

  pub closed_passes : Closed S → (i : Item) → IsItem S i → Passes S i
  closed_passes C start item γ (p, o) = true≢false (sym (ap (inside S) p ∙ C.start) ∙ o)
  closed_passes C (step c t τ) (l, g, a) γ L =
      true≢false (sym (C.steps γ L.after t (subst (λ d. d < controls S.model) (sym L.control) l, L.contents) L.inside L.taken) ∙ L.outside)
  closed_passes C (entry b e) g γ M = C.bad γ M.contents M.inside (e, at_place S.bad b g, M.listed)
