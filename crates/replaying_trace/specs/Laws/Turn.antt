-- One turn on record and memory is the turn on their configuration, by what the code finds.
use Rattle.std.specs.Prelude.{ℕ, ◌+◌, ◌≤◌, ◌<◌, ◌≡◌, refl, true, List, length, Ok, Err}
use Rattle.std.proofs.Common.{sym, ap, ◌∙◌}
use borrow.Author.Tests.{lt-ltb}
use Rattle.numbers.specs.Part.{got, refused}
use Rattle.numbers.specs.Said.{number_of, place_of}
use Rattle.numbers.specs.Number.{read_below}
use Rattle.numbers.specs.Laws.Ranges.{below_range}
use Rattle.numbers.specs.declared.refusal.Refusal.{Refusal}
use Rattle.theory_model.specs.Model.{Configuration, take?}
use Rattle.theory_model.specs.Session.{Session, inside}
use Rattle.theory_files.specs.Tables.{session_of}
use Rattle.theory_files.specs.Laws.Rows.{transitions_length}
use Rattle.theory_replay.specs.Rules.{outside}
use Rattle.theory_replay.specs.Replay.{stops, goes, kept, moved, turn}
use Rattle.theory_replay.specs.Laws.Turns.{turn_outside, turn_end, turn_unread}
use Rattle.replaying_step.specs.Configurations.{config_of}
use Rattle.replaying_step.specs.Inside.{Located, Mapped}
use Rattle.replaying_step.specs.declared.inside.Outside.{Outside}
use Rattle.replaying_step.specs.Taking.{Takeable, TakeAsked, Stays, Tries}
use Rattle.replaying_step.specs.declared.runs.RunRecord.{RunRecord}
use Rattle.replaying_step.specs.declared.taking.Untaken.TheVariants as Untaken
use Rattle.tables.specs.declared.view.TablesView.{TablesView}
use Rattle.tables.specs.declared.tables.BadList.{BadList}
use Rattle.replaying_trace.specs.Tables.{view_without_bad}
use Rattle.replaying_trace.specs.Laws.Tables.{view_with_bad}
use Rattle.replaying_trace.specs.Run.{State, stands, Ready, Stepped}
use Rattle.replaying_trace.specs.declared.progress.Stop.TheVariants as Stop
use Rattle.replaying_trace.specs.declared.progress.Progress.{Progress}

-- A TURN whose configuration is inside and whose number is read is that of its transition
module _ (S : Session) (s : List ℕ) (at : ℕ) (γ : Configuration) where
  turn_is : inside S γ ≡ true → at < length s → {t next : ℕ} → read_below s at (length S.model.transitions) ≡ got t next
      → turn S s at γ ≡ moved at next (take? S.model t γ)
  unfolding turn
  turn_is i h e = rw (i, lt-ltb at (length s) h, e)

-- nothing has moved
unmoved : {r : RunRecord} {mem : List ℕ} → Stays r mem r mem
unmoved = record { same = refl; kept = refl }

-- WHAT A STEP'S STATE GIVES to its parts, whatever the bad entries
module _ (v : TablesView) (s : List ℕ) (x : State) {B : BadList} (R : Ready (view_with_bad v B) s x) where
  abbrev S : Session
  S = session_of (view_without_bad v)

  abbrev γ : Configuration
  γ = stands v.head x

  abbrev at : ℕ
  at = x.progress.at

  pub transitions_counted : length S.model.transitions ≡ v.head.transitions
  transitions_counted = transitions_length v.rows.now v.head.transitions 0

  pub ready_mapped : Mapped v x.lent x.memory
  ready_mapped =
      record {
        machines = R.valid.machines;
        queues = R.valid.queues;
        pool = R.valid.pool;
        map = R.valid.map;
        holds = R.holds;
      }

  pub ready_takeable : {i : ℕ} → i < v.head.transitions → Takeable v.head v.rows.now x.lent x.memory i
  ready_takeable h =
      record {
        machines = R.valid.machines;
        queues = R.valid.queues;
        transitions = R.valid.transitions;
        number = h;
        holds = R.holds;
      }

  -- the configuration is outside; it is inside, and the trace ends, has no number, or has one
  pub stepped_outside : {o : Outside} → Located v γ (Err o) → Stepped v s x (Err (Stop.Outside o.0)) x.lent x.memory
  stepped_outside L =
      record { turned = record { turns = turn_outside S s at γ L.is.0 ∙ ap (λ n. stops (outside n)) (sym L.is.1); stays = unmoved } }

  module _ (L : Located v γ (Ok tt)) where
    pub stepped_end : length s ≤ at → Stepped v s x (Err Stop.End) x.lent x.memory
    stepped_end h = record { turned = record { turns = turn_end S s at γ L.is h; stays = unmoved } }

    pub stepped_unread : {why : Refusal} → at < length s → refused (number_of why) (place_of why) ≡ read_below s at v.head.transitions
        → Stepped v s x (Err (Stop.Unread why)) x.lent x.memory
    stepped_unread h e =
        record {
          turned =
              record { turns = turn_unread S s at γ L.is h (ap (read_below s at) transitions_counted ∙ sym e); stays = unmoved };
        }

    module _ {t next : ℕ} (h : at < length s) (e : got t next ≡ read_below s at v.head.transitions) where
      number : Takeable v.head v.rows.now x.lent x.memory t
      number = ready_takeable (below_range s at v.head.transitions (sym e))

      pub number_asked : TakeAsked v.rows.now x.lent x.memory t
      number_asked = record { head = v.head; takeable = number }

      turn_moves : turn S s at γ ≡ moved at next (take? S.model t γ)
      turn_moves = turn_is S s at γ L.is h (ap (read_below s at) transitions_counted ∙ sym e)

      pub stepped_taken : {r : RunRecord} {mem : List ℕ} {p : Progress} → Tries v.rows.now t x.lent x.memory (Ok tt) r mem → p.at ≡ next
          → p.steps ≡ x.progress.steps + 1 → Stepped v s x (Ok p) r mem
      stepped_taken {r} {mem} {p} tries a n =
          let T = tries v.head number in
          record {
            turned =
                record {
                  turns =
                      turn_moves
                      ∙ ap (moved at next) T.taken
                      ∙ ap (λ b. kept b at next (config_of v.head.machines v.head.queues r mem)) T.fitting
                      ∙ ap (λ k. goes (config_of v.head.machines v.head.queues r mem) k) (sym a);
                  steps = n;
                  holds = T.holds;
                  kept = record { past = T.past; long = T.long };
                };
          }

      pub stepped_untaken : {r : RunRecord} {mem : List ℕ} → Tries v.rows.now t x.lent x.memory (Err Untaken.NotPossible) r mem
          → Stepped v s x (Err (Stop.NotPossible at)) r mem
      stepped_untaken tries =
          let T = tries v.head number in
          record { turned = record { turns = turn_moves ∙ ap (moved at next) T.0; stays = T.1 } }

      pub stepped_full : {r : RunRecord} {mem : List ℕ} → Tries v.rows.now t x.lent x.memory (Err Untaken.NoRoom) r mem
          → Stepped v s x (Err (Stop.NoRoom at)) r mem
      stepped_full tries =
          let ((γ', m, n), stays) = tries v.head number in
          record { turned = record { turns = turn_moves ∙ ap (moved at next) m ∙ ap (λ b. kept b at next γ') n; stays = stays } }
