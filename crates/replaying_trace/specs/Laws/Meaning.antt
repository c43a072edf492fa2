-- What a replay's reply says of the run of the file's session: the theorems of traces, over bytes.
use Rattle.std.specs.Prelude.{ℕ, ◌*◌, ◌≤◌, ◌≡◌, ◌↔◌, List, length}
use Rattle.std.proofs.Common.{sym, ◌∙◌, le-leb}
use Rattle.std.proofs.Math.Path.{ap, ap₂}
use Rattle.std.proofs.Math.Option.{none}
use Rattle.numbers.specs.Limits.{most_bytes}
use Rattle.numbers.specs.Part.{got}
use Rattle.tables.specs.declared.tables.Tables.{Tables}
use Rattle.reading_file.specs.File.{read_file}
use Rattle.theory_model.specs.Model.{take?}
use Rattle.theory_model.specs.Session.{Outside, how_far_in}
use Rattle.theory_files.specs.Tables.{session_of}
use Rattle.theory_replay.specs.Rules.{room, Why, outside, refusal, Asked}
use Rattle.theory_replay.specs.Meaning.{Leads, last}
use Rattle.theory_replay.specs.Replay.{replayed}
use Rattle.theory_replay.specs.Laws.Meaning.{outside_exactly, untaken_exactly}
use Rattle.replaying_step.specs.declared.runs.RunRecord.{RunRecord}
use Rattle.replaying_trace.specs.Reply.{ran, ran_to, lent_to, replay_to, replay_of}
use Rattle.replaying_trace.specs.Laws.Closed.{ran_why}

-- a file that is read, a trace that is not too long, memory enough
module _ (bytes s mem : List ℕ) (r : RunRecord) {T : Tables} {next : ℕ} (e : read_file bytes ≡ got T next) (h : length s ≤ most_bytes)
    (l : T.queues.count * room ≤ length mem) where
  -- the replay is that of the file's session, whatever record and memory held
  pub ran_is : replay_of bytes s mem r ≡ ran_to T mem (replayed (session_of T) s)
  unfolding replay_of
  ran_is =
      ap (λ x. replay_to x s mem r) e
      ∙ ap₂ (λ x y. lent_to x y T s mem r) (le-leb (length s) most_bytes h) (le-leb (T.queues.count * room) (length mem) l)

  ended_so : (w : Why) (n : ℕ) → (((replay_of bytes s mem r).reply ≡ ran w) × ((replay_of bytes s mem r).steps ≡ n))
      ↔ (((replayed (session_of T) s).why ≡ w) × ((replayed (session_of T) s).steps ≡ n))
  ended_so w n = (
    (λ (a, b). (ran_why (sym (ap (λ o. o.reply) ran_is) ∙ a), sym (ap (λ o. o.steps) ran_is) ∙ b)),
    (λ (a, b). (ap (λ o. o.reply) ran_is ∙ ap ran a, ap (λ o. o.steps) ran_is ∙ b)),
  )

  -- OUTSIDE after n steps, with f: configurations 0 to n − 1 of the run that is fed the trace's first n numbers are inside, each of them taken, and
  -- configuration n is not, and f messages of what waits there are followed
  pub outside_after : (f n : ℕ) → (((replay_of bytes s mem r).reply ≡ ran (outside f)) × ((replay_of bytes s mem r).steps ≡ n))
      ↔ ((ts : List ℕ) × (at : ℕ) × Leads (session_of T) s ts at × (length ts ≡ n) × Outside (session_of T) (last (session_of T) ts)
      × (f ≡ how_far_in (session_of T) (last (session_of T) ts)))
  outside_after f n = (
    (λ x. (outside_exactly (session_of T) s f n).0 ((ended_so (outside f) n).0 x)),
    (λ y. (ended_so (outside f) n).1 ((outside_exactly (session_of T) s f n).1 y)),
  )

  -- 14 at place p: the number that stands there is a transition's, and the configuration that the trace has led to does not allow it
  pub untaken_at : (p n : ℕ) → (((replay_of bytes s mem r).reply ≡ ran (refusal 14 p)) × ((replay_of bytes s mem r).steps ≡ n))
      ↔ ((ts : List ℕ) × Leads (session_of T) s ts p × (length ts ≡ n)
      × (t next : ℕ) × Asked (session_of T) s p (last (session_of T) ts) t next × (take? (session_of T).model t (last (session_of T) ts) ≡ none))
  untaken_at p n = (
    (λ x. (untaken_exactly (session_of T) s p n).0 ((ended_so (refusal 14 p) n).0 x)),
    (λ y. (ended_so (refusal 14 p) n).1 ((untaken_exactly (session_of T) s p n).1 y)),
  )
