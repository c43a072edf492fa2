-- A step that is taken: its transition, and that it leads from a configuration of the model to one.
use Rattle.std.specs.Prelude.{◌≡◌, false, ◌↔◌, List, [], ◌++◌, ℕ, ◌<◌, get_or, set}
use Rattle.std.proofs.Math.Path.{refl, sym, ap}
use Rattle.std.proofs.Common.{subst, ◌∙◌, arith, eqb-true}
use Rattle.std.proofs.Math.Bool.{true}
use Rattle.std.proofs.Math.Option.{Option, none, some, map, map-eq-some_iff}
use Rattle.std.proofs.Math.ListN.{get_elem?}
use Rattle.theory_exploration.specs.Mem.{Mem}
use Rattle.theory_model.specs.Model.{Action, local, send, receive, Transition, Model, Configuration, Between, strip, act, controls, Contents, is_at}
use Rattle.theory_model.specs.Model.{places, moved, takes, take?}
use Rattle.theory_model.specs.Session.{Session, States, OwnWord, WellFormed}
use Rattle.theory_model.specs.Laws.Basics.{by_test, none_not_some}
use Rattle.theory_model.specs.Laws.Controls.{number_below, places_number, states_set, places_are_states}
use Rattle.theory_model.specs.Laws.Queues.{between_wide, between_append, between_back, strip_is, strips, around}
use Rattle.theory_model.specs.Laws.Items.{at_place}

-- what a step that is taken consists of
pub record Taken (M : Model) (t : ℕ) (γ γ' : Configuration) : Type 0 where
  pub transition : Transition
  pub numbered : get_elem? M.transitions t ≡ some transition
  pub placed : is_at M γ.control transition ≡ true
  pub acted : act transition.action γ.queues ≡ some γ'.queues
  pub led : γ'.control ≡ moved M γ.control transition

module _ (M : Model) (t : ℕ) (γ : Configuration) where
  after : Transition → List (List ℕ) → Configuration
  after τ qs = record { control = moved M γ.control τ; queues = qs }

  -- a number that is no transition is not taken, nor is one whose machine is not in the from-state
  pub take_none : get_elem? M.transitions t ≡ none → take? M t γ ≡ none
  take_none n = rw (n, take?)

  pub take_not_at : (τ : Transition) → get_elem? M.transitions t ≡ some τ → is_at M γ.control τ ≡ false → take? M t γ ≡ none
  take_not_at τ n a = rw (n, take?, a, takes)

  take_at : (τ : Transition) → get_elem? M.transitions t ≡ some τ → is_at M γ.control τ ≡ true → take? M t γ ≡ map (after τ) (act τ.action γ.queues)
  unfolding after
  take_at τ n a = rw (n, take?, a, takes)

  pub taken_is : (γ' : Configuration) → take? M t γ ≡ some γ' → Taken M t γ γ'
  unfolding after
  taken_is γ' e = by_number (get_elem? M.transitions t) refl
    where
      by_action : (τ : Transition) → get_elem? M.transitions t ≡ some τ → is_at M γ.control τ ≡ true → (o : Option (List (List ℕ)))
          → act τ.action γ.queues ≡ o → Taken M t γ γ'
      by_action τ n a none o = none_not_some (take_at τ n a ∙ ap (map (after τ)) o) e
      by_action τ n a (some qs) o =
          let same : after τ qs ≡ γ' = cc (take_at τ n a, ap (map (after τ)) o) in
          record {
            transition = τ;
            numbered = n;
            placed = a;
            acted = o ∙ ap (λ δ. some δ.queues) same;
            led = sym (ap (λ δ. δ.control) same);
          }

      by_number : (o : Option Transition) → get_elem? M.transitions t ≡ o → Taken M t γ γ'
      by_number none n = none_not_some (take_none n) e
      by_number (some τ) n =
          by_test (is_at M γ.control τ) (λ a. by_action τ n a (act τ.action γ.queues) refl) (λ a. none_not_some (take_not_at τ n a) e)

  -- a step whose transition stands there, whose machine is in its from-state, and whose action is possible is taken
  pub is_taken : (τ : Transition) (qs : List (List ℕ)) → get_elem? M.transitions t ≡ some τ → is_at M γ.control τ ≡ true → act τ.action γ.queues ≡ some qs
      → take? M t γ ≡ some (record { control = moved M γ.control τ; queues = qs })
  unfolding after
  is_taken τ qs n a o = take_at τ n a ∙ ap (map (after τ)) o

-- the machine was in the from-state
pub taken_from : (M : Model) (t : ℕ) (γ γ' : Configuration) (T : Taken M t γ γ') → get_or (places M.sizes γ.control) T.transition.machine 0 ≡ T.transition.from
taken_from M t γ γ' T = eqb-true _ _ T.placed

-- a receive is possible only if the queue begins with the word: the old contents of the queue are the word followed by the new contents
pub receive_is : (q : ℕ) (w : List ℕ) (qs qs' : List (List ℕ)) → (act (receive q w) qs ≡ some qs') ↔ ((r : List ℕ) × (get_or qs q [] ≡ w ++ r) × (set qs q r ≡ qs'))
receive_is q w qs qs' = (
  (λ e. let (r, s, p) = (map-eq-some_iff (λ rest. set qs q rest) (strip w (get_or qs q []))).0 e in (r, strip_is w (get_or qs q []) s, p)),
  (λ (r, o, p). (map-eq-some_iff (λ rest. set qs q rest) (strip w (get_or qs q []))).1 (r, ap (strip w) o ∙ strips w r, p)),
)

-- CONTENTS STAY CONTENTS
pub contents_act : (M : Model) (a : Action) (qs qs' : List (List ℕ)) → OwnWord M a → Contents M qs → act a qs ≡ some qs' → Contents M qs'
contents_act M local qs qs' w h e = let same : qs ≡ qs' = cc in subst (Contents M) same h
contents_act M (send q w) qs qs' (l, b) h e =
    let A = around q l h in
    let same : set qs q (get_or qs q [] ++ w) ≡ qs' = cc in
    subst (Contents M) same (A.owns (get_or qs q [] ++ w) (between_append A.own (between_wide (omega arith) (omega arith) b)))
contents_act M (receive q w) qs qs' (l, b) h e =
    let A = around q l h in
    let (r, whole, same) = (receive_is q w qs qs').0 e in
    subst (Contents M) same (A.owns r (between_back w r (subst (Between _ _) whole A.own)))

module _ (S : Session) (wf : WellFormed S) where
  pub contents_step : (t : ℕ) (γ γ' : Configuration) → Taken S.model t γ γ' → Contents S.model γ.queues → Contents S.model γ'.queues
  contents_step t γ γ' T h =
      contents_act S.model T.transition.action γ.queues γ'.queues (wf.words T.transition (at_place S.model.transitions t T.numbered)) h T.acted

  module _ (c : ℕ) (τ : Transition) (m : Mem τ S.model.transitions) (h : c < controls S.model) where
    moved_states : States S.model.sizes (set (places S.model.sizes c) τ.machine τ.to)
    moved_states = states_set S.model.sizes (places S.model.sizes c) τ.machine τ.to (wf.moves τ m) (places_are_states S.model.sizes c h)

    pub moved_below : moved S.model c τ < controls S.model
    moved_below = number_below S.model.sizes _ moved_states

    -- its machine is in the to-state, and no other machine moves
    pub moved_places : places S.model.sizes (moved S.model c τ) ≡ set (places S.model.sizes c) τ.machine τ.to
    moved_places = places_number S.model.sizes _ moved_states
