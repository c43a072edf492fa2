-- THE COMPUTATION IS THE REPLAY OF THE RULES, and the rules leave one end: each step takes a byte at least, so as many turns are enough as there are bytes.
use Rattle.std.specs.Prelude.{ℕ, zero, suc, ◌+◌, ◌≤◌, ◌≡◌, refl, List, length}
use Rattle.std.proofs.Common.{sym, subst, ◌∙◌, arith}
use Rattle.theory_model.specs.Model.{Configuration, begin}
use Rattle.theory_model.specs.Session.{Session}
use Rattle.theory_replay.specs.Rules.{Ended, ReplaysFrom, stop, step, ReplayEnds}
use Rattle.theory_replay.specs.Replay.{Turn, stops, goes, turn, replay_from, replayed}
use Rattle.theory_replay.specs.Laws.Turns.{turn_stops, turn_goes, stops_turn, steps_turn, step_advances, replay_stops, replay_goes_on}

module _ (S : Session) (s : List ℕ) where
  -- from a place on, with a turn left for each byte left
  rules_from : (left n at : ℕ) (γ : Configuration) → length s ≤ at + left → ReplaysFrom S s n at γ (replay_from S s left n at γ)
  rules_from zero n at γ h = by_turn (turn S s at γ) refl
    where
      by_turn : (x : Turn) → turn S s at γ ≡ x → ReplaysFrom S s n at γ (replay_from S s zero n at γ)
      by_turn (stops w) e = subst (ReplaysFrom S s n at γ) (sym (replay_stops S s at γ zero n e)) (stop (turn_stops e))
      by_turn (goes γ' next) e = let a = step_advances (turn_goes e).1 in absurd (omega arith)
  rules_from (suc left) n at γ h = by_turn (λ γ' next g. rules_from left (n + 1) next γ' g) (turn S s at γ) refl
    where
      by_turn : ((γ' : Configuration) (next : ℕ) → length s ≤ next + left → ReplaysFrom S s (n + 1) next γ' (replay_from S s left (n + 1) next γ'))
          → (x : Turn) → turn S s at γ ≡ x → ReplaysFrom S s n at γ (replay_from S s (suc left) n at γ)
      by_turn later (stops w) e = subst (ReplaysFrom S s n at γ) (sym (replay_stops S s at γ (suc left) n e)) (stop (turn_stops e))
      by_turn later (goes γ' next) e =
          let (t, p) = turn_goes e in
          let a = step_advances p in
          subst (ReplaysFrom S s n at γ) (sym (replay_goes_on S s at γ left n e)) (step p (later γ' next (omega arith)))

  from_rules : {n at : ℕ} {γ : Configuration} {e : Ended} → ReplaysFrom S s n at γ e → (left : ℕ) → length s ≤ at + left → e ≡ replay_from S s left n at γ
  from_rules (stop p) left h = sym (replay_stops S s _ _ left _ (stops_turn p))
  from_rules (step p r) zero h = let a = step_advances p in absurd (omega arith)
  from_rules (step p r) (suc left) h =
      let a = step_advances p in
      from_rules r left (omega arith) ∙ sym (replay_goes_on S s _ _ left _ (steps_turn p))

  pub replay_rules : ReplayEnds S s (replayed S s)
  replay_rules = rules_from (length s) 0 0 (begin S.model) (omega arith)

  pub rules_replay : {e : Ended} → ReplayEnds S s e → e ≡ replayed S s
  rules_replay r = from_rules r (length s) (omega arith)
