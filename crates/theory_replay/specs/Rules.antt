-- Replaying a trace (document 02, change 2) by rules on configurations of the model: transition numbers in groups of seven bits, to the end of
-- the trace. Nothing here computes, and nothing speaks of lent memory.
use Rattle.std.specs.Prelude.{ℕ, ◌+◌, ◌≤◌, ◌<◌, ◌≡◌, Bool, true, false, ◌&&◌, List, [], ◌∷◌, length, leb}
use Rattle.std.proofs.Math.Option.{none, some}
use Rattle.numbers.specs.Part.{got, refused}
use Rattle.numbers.specs.Number.{read_below}
use Rattle.theory_model.specs.Model.{Configuration, take?, begin}
use Rattle.theory_model.specs.Session.{Session, Inside, Outside, how_far_in}
use Rattle.numbers.specs.Refusals.{not_possible, queue_full}

-- a queue holds so many messages at most
abbrev pub room : ℕ
room = 1024

-- does each queue keep within its room?
abbrev pub fits : List (List ℕ) → Bool
fits [] = true
fits (q ∷ qs) = leb (length q) room && fits qs

-- why a replay ended: the end of the trace; a configuration outside the map, by how far its contents are followed (change 7); or a refused step, by its
-- number and its place in the trace
pub data Why : Type 0 where
  end : Why
  outside : ℕ → Why
  refusal : ℕ → ℕ → Why

module _ (S : Session) (s : List ℕ) where
  -- the configuration is inside, a transition's number stands at this place of the trace, and next is the place after it
  pub record Asked (at : ℕ) (γ : Configuration) (t next : ℕ) : Type 0 where
    pub inside : Inside S γ
    pub more : at < length s
    pub read : read_below s at (length S.model.transitions) ≡ got t next

  -- A STEP IS TAKEN: its transition can be, and no queue passes its room
  pub record Steps (at : ℕ) (γ : Configuration) (t : ℕ) (γ' : Configuration) (next : ℕ) : Type 0 where
    pub asked : Asked at γ t next
    pub taken : take? S.model t γ ≡ some γ'
    pub fitting : fits γ'.queues ≡ true

  -- THE REPLAY STOPS at a place of the trace and a configuration
  pub data Stops (at : ℕ) (γ : Configuration) : Why → Type 0 where
    -- asked first, before the end and before the next number
    left_map : Outside S γ → Stops at γ (outside (how_far_in S γ))
    no_more : Inside S γ → length s ≤ at → Stops at γ end
    -- 3, 4, or 5 for a number that is no transition
    unread : {k p : ℕ} → Inside S γ → at < length s → read_below s at (length S.model.transitions) ≡ refused k p → Stops at γ (refusal k p)
    -- the machine is in another state, or the queue does not begin with the word
    untaken : {t next : ℕ} → Asked at γ t next → take? S.model t γ ≡ none → Stops at γ (refusal not_possible at)
    -- a queue would pass its room
    full : {t next : ℕ} {γ' : Configuration} → Asked at γ t next → take? S.model t γ ≡ some γ' → fits γ'.queues ≡ false → Stops at γ (refusal queue_full at)

-- how a replay ended: why, after how many steps, at which configuration
pub record Ended : Type 0 where
  pub why : Why
  pub steps : ℕ
  pub last : Configuration

abbrev pub ended : Why → ℕ → Configuration → Ended
ended w n γ = record { why = w; steps = n; last = γ }

-- FROM A PLACE OF THE TRACE AND A CONFIGURATION on, n steps being taken
pub data ReplaysFrom (S : Session) (s : List ℕ) : ℕ → ℕ → Configuration → Ended → Type 0 where
  stop : {n at : ℕ} {γ : Configuration} {w : Why} → Stops S s at γ w → ReplaysFrom S s n at γ (ended w n γ)
  step : {n at t next : ℕ} {γ γ' : Configuration} {e : Ended} → Steps S s at γ t γ' next → ReplaysFrom S s (n + 1) next γ' e → ReplaysFrom S s n at γ e

-- THE REPLAY of a trace ends so: it starts as the session says, at the trace's first byte
abbrev pub ReplayEnds : Session → List ℕ → Ended → Type 0
ReplayEnds S s e = ReplaysFrom S s 0 0 (begin S.model) e
