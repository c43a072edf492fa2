-- The replay as a computation: turn after turn, each stops it or goes on. `Laws.Rules` proves that it is the replay of the rules.
use Rattle.std.specs.Prelude.{ℕ, zero, suc, ◌+◌, Bool, true, false, List, length, ltb}
use Rattle.std.proofs.Math.Option.{Option, none, some}
use Rattle.numbers.specs.Part.{Part, got, refused}
use Rattle.numbers.specs.Number.{read_below}
use Rattle.theory_model.specs.Model.{Configuration, take?, begin}
use Rattle.theory_model.specs.Session.{Session, inside, how_far_in}
use Rattle.theory_replay.specs.Rules.{fits, Why, end, outside, refusal, Ended, ended}
use Rattle.numbers.specs.Refusals.{not_possible, queue_full}

-- ONE TURN at a configuration: the replay stops, or goes on at the next configuration and the place after the number
pub data Turn : Type 0 where
  stops : Why → Turn
  goes : Configuration → ℕ → Turn

-- 15 where a queue would pass its room, 14 where the transition is not possible, both at the step's first byte
abbrev pub kept : Bool → ℕ → ℕ → Configuration → Turn
kept true at next γ = goes γ next
kept false at next γ = stops (refusal queue_full at)

abbrev pub moved : ℕ → ℕ → Option Configuration → Turn
moved at next none = stops (refusal not_possible at)
moved at next (some γ) = kept (fits γ.queues) at next γ

module _ (S : Session) where
  -- 3, 4 and 5 are those of a number below the count of transitions
  abbrev pub taken : ℕ → Configuration → Part ℕ → Turn
  taken at γ (refused k p) = stops (refusal k p)
  taken at γ (got t next) = moved at next (take? S.model t γ)

  abbrev pub asked : Bool → Bool → ℕ → Configuration → Part ℕ → Turn
  asked false more at γ x = stops (outside (how_far_in S γ))
  asked true false at γ x = stops end
  asked true true at γ x = taken at γ x

  unfoldable pub turn : List ℕ → ℕ → Configuration → Turn
  turn s at γ = asked (inside S γ) (ltb at (length s)) at γ (read_below s at (length S.model.transitions))

-- go on from a turn, or end there
abbrev pub onward : Turn → ℕ → Configuration → (Configuration → ℕ → Ended) → Ended
onward (stops w) n γ f = ended w n γ
onward (goes γ' next) n γ f = f γ' next

-- from step n on, at a place of the trace: each step takes a byte at least, so at most `left` steps are left
unfoldable pub replay_from : Session → List ℕ → ℕ → ℕ → ℕ → Configuration → Ended
replay_from S s zero n at γ = onward (turn S s at γ) n γ (λ γ' next. ended end n γ)
replay_from S s (suc left) n at γ = onward (turn S s at γ) n γ (λ γ' next. replay_from S s left (n + 1) next γ')

-- THE REPLAY of a trace
abbrev pub replayed : Session → List ℕ → Ended
replayed S s = replay_from S s (length s) 0 0 (begin S.model)
