-- A turn is what the rules say: it stops where they stop, and goes where they step. What the code finds, in the order in which it asks, decides the turn.
use Prim.Native.Nat.{ℕ, zero, suc, ◌+◌, ◌-◌, ◌≤◌, ◌<◌}
use Rattle.std.specs.Prelude.{◌≡◌, Bool, true, false, List, length, ltb}
use Rattle.std.proofs.Math.Path.{refl}
use Rattle.std.proofs.Common.{ap, subst, ◌∙◌}
use Rattle.std.proofs.Math.Option.{Option, none, some}
use borrow.Author.Tests.{ltb-true, ltb-false, lt-ltb, le-ltb}
use Rattle.numbers.specs.Part.{Part, got, refused}
use Rattle.numbers.specs.Number.{read_below}
use Rattle.numbers.specs.Laws.Parts.{one_more_lem}
use Rattle.numbers.specs.Laws.Ranges.{below_number}
use Rattle.theory_model.specs.Diagram.{Pool}
use Rattle.theory_model.specs.Model.{Model, Configuration, take?, begin}
use Rattle.theory_model.specs.Session.{Session, inside, how_far_in}
use Rattle.theory_replay.specs.Rules.{fits, Why, end, outside, refusal, Asked, Steps, Stops, left_map, no_more, unread, untaken, full, Ended, ended}
use Rattle.theory_replay.specs.Replay.{Turn, stops, goes, kept, moved, taken, asked, turn, onward, replay_from, replayed}
use Rattle.theory_replay.specs.Laws.Numbers.{number_after}

-- WHAT DECIDES A TURN, question by question
module _ (S : Session) (s : List ℕ) (at : ℕ) (γ : Configuration) where
  pub turn_outside : inside S γ ≡ false → turn S s at γ ≡ stops (outside (how_far_in S γ))
  unfolding turn
  turn_outside o = rw (o, turn)

  pub turn_end : inside S γ ≡ true → length s ≤ at → turn S s at γ ≡ stops end
  unfolding turn
  turn_end i h = rw (i, le-ltb at (length s) h, turn)

  pub turn_unread : {k p : ℕ} → inside S γ ≡ true → at < length s → read_below s at (length S.model.transitions) ≡ refused k p
      → turn S s at γ ≡ stops (refusal k p)
  unfolding turn
  turn_unread i h r = rw (i, lt-ltb at (length s) h, r, turn)

  module _ (i : inside S γ ≡ true) (h : at < length s) {t next : ℕ} (r : read_below s at (length S.model.transitions) ≡ got t next) where
    pub turn_untaken : take? S.model t γ ≡ none → turn S s at γ ≡ stops (refusal 14 at)
    unfolding turn
    turn_untaken n = rw (i, lt-ltb at (length s) h, r, n, turn)

    pub turn_full : {γ' : Configuration} → take? S.model t γ ≡ some γ' → fits γ'.queues ≡ false → turn S s at γ ≡ stops (refusal 15 at)
    unfolding turn
    turn_full m f = rw (i, lt-ltb at (length s) h, r, m, f, turn)

    pub turn_taken : {γ' : Configuration} → take? S.model t γ ≡ some γ' → fits γ'.queues ≡ true → turn S s at γ ≡ goes γ' next
    unfolding turn
    turn_taken m f = rw (i, lt-ltb at (length s) h, r, m, f, turn)

-- THE TURN IS THE RULES': first one statement of any turn, then its four halves
module _ (S : Session) (s : List ℕ) (at : ℕ) (γ : Configuration) where
  -- what the rules say of a turn
  abbrev Turns : Turn → Type 0
  Turns (stops w) = Stops S s at γ w
  Turns (goes γ' next) = (t : ℕ) × Steps S s at γ t γ' next

  module _ {t next : ℕ} (a : Asked S s at γ t next) where
    kept_turns : {γ' : Configuration} → take? S.model t γ ≡ some γ' → (b : Bool) → fits γ'.queues ≡ b → Turns (kept b at next γ')
    kept_turns m true f = (t, record { asked = a; taken = m; fitting = f })
    kept_turns m false f = full a m f

    moved_turns : (o : Option Configuration) → take? S.model t γ ≡ o → Turns (moved at next o)
    moved_turns none m = untaken a m
    moved_turns (some γ') m = kept_turns m (fits γ'.queues) refl

  taken_turns : inside S γ ≡ true → at < length s → (x : Part ℕ) → read_below s at (length S.model.transitions) ≡ x → Turns (taken S at γ x)
  taken_turns i h (refused k p) r = unread i h r
  taken_turns i h (got t next) r = moved_turns (record { inside = i; more = h; read = r }) (take? S.model t γ) refl

  asked_turns : (b more : Bool) → inside S γ ≡ b → ltb at (length s) ≡ more → Turns (asked S b more at γ (read_below s at (length S.model.transitions)))
  asked_turns false more i h = left_map i
  asked_turns true false i h = no_more i (ltb-false at (length s) h)
  asked_turns true true i h = taken_turns i (ltb-true at (length s) h) (read_below s at (length S.model.transitions)) refl

  turn_turns : Turns (turn S s at γ)
  unfolding turn
  turn_turns = asked_turns (inside S γ) (ltb at (length s)) refl refl

module _ {S : Session} {s : List ℕ} {at : ℕ} {γ : Configuration} where
  pub turn_stops : {w : Why} → turn S s at γ ≡ stops w → Stops S s at γ w
  turn_stops e = subst (Turns S s at γ) e (turn_turns S s at γ)

  pub turn_goes : {γ' : Configuration} {next : ℕ} → turn S s at γ ≡ goes γ' next → (t : ℕ) × Steps S s at γ t γ' next
  turn_goes e = subst (Turns S s at γ) e (turn_turns S s at γ)

  pub stops_turn : {w : Why} → Stops S s at γ w → turn S s at γ ≡ stops w
  stops_turn (left_map o) = turn_outside S s at γ o
  stops_turn (no_more i h) = turn_end S s at γ i h
  stops_turn (unread i h r) = turn_unread S s at γ i h r
  stops_turn (untaken a n) = turn_untaken S s at γ a.inside a.more a.read n
  stops_turn (full a m f) = turn_full S s at γ a.inside a.more a.read m f

  pub steps_turn : {t next : ℕ} {γ' : Configuration} → Steps S s at γ t γ' next → turn S s at γ ≡ goes γ' next
  steps_turn p = turn_taken S s at γ p.asked.inside p.asked.more p.asked.read p.taken p.fitting

  -- each step takes a byte at least, and stays within the trace
  pub step_advances : {t next : ℕ} {γ' : Configuration} → Steps S s at γ t γ' next → (at < next) × (next ≤ length s)
  step_advances p = number_after s at (below_number s at _ p.asked.read)

-- THE REPLAY turn by turn
module _ (S : Session) (s : List ℕ) (at : ℕ) (γ : Configuration) where
  pub replay_stops : (left n : ℕ) {w : Why} → turn S s at γ ≡ stops w → replay_from S s left n at γ ≡ ended w n γ
  unfolding replay_from
  replay_stops zero n e = rw e
  replay_stops (suc left) n e = rw e

  -- with a step more to go
  pub replay_goes_on : (left n : ℕ) {γ' : Configuration} {next : ℕ} → turn S s at γ ≡ goes γ' next
      → replay_from S s (suc left) n at γ ≡ replay_from S s left (n + 1) next γ'
  unfolding replay_from
  replay_goes_on left n e = rw e

  pub replay_goes : (n : ℕ) {γ' : Configuration} {next : ℕ} → n < length s → turn S s at γ ≡ goes γ' next
      → replay_from S s (length s - n) n at γ ≡ replay_from S s (length s - (n + 1)) (n + 1) next γ'
  replay_goes n h e = ap (λ left. replay_from S s left n at γ) (one_more_lem h) ∙ replay_goes_on (length s - (n + 1)) n e

-- THE BAD ENTRIES have no part in it
onward_same : (x : Turn) (n : ℕ) (γ : Configuration) (f g : Configuration → ℕ → Ended) → ((γ' : Configuration) (next : ℕ) → f γ' next ≡ g γ' next)
    → onward x n γ f ≡ onward x n γ g
onward_same (stops w) n γ f g h = refl
onward_same (goes γ' next) n γ f g h = h γ' next

module _ (M : Model) (P : Pool) (R : ℕ → Option ℕ) (B B' : List (ℕ × ℕ)) (s : List ℕ) where
  pub turn_without_bad : (at : ℕ) (γ : Configuration)
      → turn (record { model = M; pool = P; root = R; bad = B }) s at γ ≡ turn (record { model = M; pool = P; root = R; bad = B' }) s at γ
  unfolding turn
  turn_without_bad at γ = refl

  pub replay_without_bad : (left n at : ℕ) (γ : Configuration)
      → replay_from (record { model = M; pool = P; root = R; bad = B }) s left n at γ ≡ replay_from (record { model = M; pool = P; root = R; bad = B' }) s left n at γ
  unfolding turn replay_from
  replay_without_bad zero n at γ = refl
  replay_without_bad (suc left) n at γ =
      onward_same (turn (record { model = M; pool = P; root = R; bad = B }) s at γ) n γ _ _ (λ γ' next. replay_without_bad left (n + 1) next γ')

  pub replayed_without_bad : replayed (record { model = M; pool = P; root = R; bad = B }) s ≡ replayed (record { model = M; pool = P; root = R; bad = B' }) s
  replayed_without_bad = replay_without_bad (length s) 0 0 (begin M)
