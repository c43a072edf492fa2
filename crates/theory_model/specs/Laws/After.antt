-- How far the contents after a step are followed, from the contents before it: a step that leaves shows the number of the configuration that it leads to.
use Rattle.std.specs.Prelude.{◌≡◌, refl, List, ◌++◌, ℕ, suc, length, drop}
use Rattle.std.proofs.Common.{sym, ◌∙◌, arith, drop_at}
use Rattle.std.proofs.Math.Path.{ap, ap₂}
use Rattle.theory_model.specs.Model.{Action, local, send, receive, Transition, Configuration, Between, messages, act, moved}
use Rattle.theory_model.specs.Diagram.{how_far, word, front_of, rest_of}
use Rattle.theory_model.specs.Session.{Session, how_far_in, OwnWord, WellFormed}
use Rattle.theory_model.specs.Verdict.{step, Leaves}
use Rattle.theory_model.specs.Judge.{cut, out, into, exchanged, far_after}
use Rattle.theory_model.specs.Laws.Queues.{between_wide, between_append, first_total}
use Rattle.theory_model.specs.Laws.Items.{IsItem, at_place}
use Rattle.theory_model.specs.Laws.Steps.{taken_is}
use Rattle.theory_model.specs.Laws.Ordered.{front_is, rest_is}
use Rattle.theory_model.specs.Laws.Parts.{Parted, act_parts}

module _ (S : Session) where
  -- what a step takes out stands behind the cut
  out_high : (a : Action) (v : List ℕ) → OwnWord S.model a → Between (cut S a) (messages S.model) v → Between (cut S a) (messages S.model) (out a ++ v)
  out_high local v o h = h
  out_high (send q w) v o h = h
  out_high (receive q w) v (l, b) h = between_append (between_wide (omega arith) (first_total S.model.queues (suc q)) b) h

  -- the contents after an action, from those before it
  pub parted_exchanged : (a : Action) (qs qs' : List (List ℕ)) → OwnWord S.model a → Parted S a qs qs'
      → word qs' ≡ exchanged (cut S a) (length (out a)) (into a) (word qs)
  parted_exchanged a qs qs' o P =
      let high = out_high a P.v o P.high in
      let front : front_of (cut S a) (word qs) ≡ P.u = ap (front_of (cut S a)) P.earlier ∙ front_is P.u (out a ++ P.v) P.low high in
      let rest : rest_of (cut S a) (word qs) ≡ out a ++ P.v = ap (rest_of (cut S a)) P.earlier ∙ rest_is P.u (out a ++ P.v) P.low high in
      let left : drop (length (out a)) (rest_of (cut S a) (word qs)) ≡ P.v = ap (drop (length (out a))) rest ∙ drop_at (out a) P.v (length (out a)) refl in
      P.later ∙ sym (ap₂ (λ x y. x ++ (into a ++ y)) front left)

-- OF A STEP THAT LEAVES
module _ (S : Session) (wf : WellFormed S) (c t : ℕ) (τ : Transition) (item : IsItem S (step c t τ)) (γ : Configuration) (L : Leaves S c t γ) where
  pub far_after_lem : {w : List ℕ} → word γ.queues ≡ w → how_far_in S L.after ≡ far_after S c τ w
  unfolding far_after
  far_after_lem {w} e =
      let T = taken_is S.model t γ L.after L.taken in
      let same : T.transition ≡ τ = cc (T.numbered, item.1) in
      let own : OwnWord S.model τ.action = wf.words τ (at_place S.model.transitions t item.1) in
      let P = act_parts S τ.action γ.queues L.after.queues own L.contents (ap (λ σ. act σ.action γ.queues) (sym same) ∙ T.acted) in
      let control : L.after.control ≡ moved S.model c τ = T.led ∙ ap₂ (moved S.model) L.control same in
      ap₂ (λ d x. how_far S.pool (S.root d) x) control
      (parted_exchanged S τ.action γ.queues L.after.queues own P ∙ ap (exchanged (cut S τ.action) (length (out τ.action)) (into τ.action)) e)
