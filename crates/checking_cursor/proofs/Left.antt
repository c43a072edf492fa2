-- The items from a place on, as the steps of its control state go.
-- These stand here and not in specs/ because a must-fail edit of the order of what is left takes their ground away.
use Rattle.std.specs.Prelude.{ℕ, ◌+◌, ◌<◌, ◌≡◌, [], ◌∷◌, ◌++◌}
use Rattle.std.proofs.Common.{sym, ap, ◌∙◌}
use Rattle.theory_model.specs.Model.{Transition, controls}
use Rattle.theory_model.specs.Session.{Session}
use Rattle.theory_model.specs.Verdict.{step}
use Rattle.checking_cursor.specs.Left.{steps_on, from_step}
use Rattle.checking_cursor.specs.Laws.Left.{from_split}

module _ (S : Session) where
  -- as the steps of the control state go, so do all
  module _ (c i : ℕ) (h : c < controls S.model) where
    pub from_same : (r : ℕ) → steps_on S.model c i ≡ steps_on S.model c r → from_step S c i ≡ from_step S c r
    from_same r e = from_split S c i h ∙ ap (λ l. l ++ from_step S (c + 1) 0) e ∙ sym (from_split S c r h)

    pub from_here : (τ : Transition) → steps_on S.model c i ≡ step c i τ ∷ steps_on S.model c (i + 1)
        → from_step S c i ≡ step c i τ ∷ from_step S c (i + 1)
    from_here τ e = from_split S c i h ∙ ap (λ l. l ++ from_step S (c + 1) 0) e ∙ ap (λ l. step c i τ ∷ l) (sym (from_split S c (i + 1) h))

    pub from_next : steps_on S.model c i ≡ [] → from_step S c i ≡ from_step S (c + 1) 0
    from_next e = from_split S c i h ∙ ap (λ l. l ++ from_step S (c + 1) 0) e
