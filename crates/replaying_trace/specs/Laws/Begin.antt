-- The beginning of a replay: a refusal, or the record and memory in which the session starts.
use Rattle.std.specs.Prelude.{ℕ, ◌*◌, ◌≤◌, ◌<◌, ◌≡◌, List, ◌++◌, length, get_or, drop, leb, ltb, Ok, Err}
use Rattle.std.proofs.Common.{sym, subst, ◌∙◌, arith, le-leb, ltb-true, ltb-false}
use Rattle.std.proofs.Math.Path.{ap, ap₂}
use Rattle.std.proofs.Math.Nat.{sub-zero}
use Rattle.std.proofs.lemmas.List.{length-replicate}
use Rattle.std.proofs.lemmas.Bool.{lt-leb}
use Rattle.numbers.specs.Limits.{most_bytes}
use Rattle.numbers.specs.Part.{got, refused}
use Rattle.numbers.specs.Said.{number_of, place_of}
use Rattle.numbers.specs.Laws.Written.{zeros_hold}
use Rattle.numbers.specs.declared.refusal.Refusal.{Refusal}
use Rattle.tables.specs.Limits.{most_queues}
use Rattle.tables.specs.Starting.{starting_at}
use Rattle.tables.specs.Laws.Each.{each_length}
use Rattle.reading_file.specs.Valid.{Valid}
use Rattle.tables.specs.declared.tables.BadList.{BadList}
use Rattle.tables.specs.declared.tables.Tables.{Tables}
use Rattle.reading_file.specs.File.{read_file}
use Rattle.reading_file.specs.Laws.Valid.{valid}
use Rattle.theory_model.specs.Model.{Own, begin, number}
use Rattle.theory_model.specs.Laws.Basics.{by_test}
use Rattle.theory_files.specs.Tables.{session_of}
use Rattle.theory_files.specs.Laws.Starting.{starting_own}
use Rattle.controls.specs.Laws.Begin.{starts_are_states}
use Rattle.controls.specs.Controls.{sizes_of, starts_of}
use Rattle.theory_replay.specs.Rules.{room}
use Rattle.theory_replay.specs.Replay.{replayed, replay_from}
use Rattle.theory_replay.specs.Laws.Queues.{replayed_queues}
use Rattle.replaying_queues.specs.Laid.{laid_all}
use Rattle.replaying_queues.specs.Laying.{Layable, Lays}
use Rattle.replaying_step.specs.Configurations.{config_of, counts_of, Holds}
use Rattle.replaying_step.specs.After.{record_after}
use Rattle.replaying_step.specs.declared.runs.RunRecord.{RunRecord}
use Rattle.replaying_trace.specs.Tables.{without_bad}
use Rattle.replaying_trace.specs.Reply.{ran, Outcome, ran_to, lent_to, replay_to, replay_of, Replays}
use Rattle.replaying_trace.specs.Run.{opening, Ready, rest, Ran, starts_with}
use Rattle.replaying_trace.specs.Laws.Tables.{with_bad, ready_without_bad, with_bad_replayed, without_bad_replayed}
use Rattle.replaying_trace.specs.declared.progress.ReplayRefusal.TheVariants.{File, TraceTooLong, MemoryShort}
use Rattle.replaying_trace.specs.declared.progress.Ended as Code

abbrev start_of : Tables → RunRecord
start_of T = starts_with T.machines T.queues

-- A REFUSAL: record and memory as they were
module _ (bytes s mem : List ℕ) (r : RunRecord) where
  pub replays_unread : {why : Refusal} → read_file bytes ≡ refused (number_of why) (place_of why) → Replays bytes s mem r (Err (File why)) r mem
  unfolding replay_of
  replays_unread e =
      let is = ap (λ x. replay_to x s mem r) e in
      record {
        reply = sym (ap (λ o. o.reply) is);
        steps = sym (ap (λ o. o.steps) is);
        lent = sym (ap (λ o. o.lent) is);
        queues = sym (ap (λ o. o.queues) is);
      }

  module _ {T : Tables} {next : ℕ} (e : read_file bytes ≡ got T next) where
    pub replays_long : most_bytes < length s → Replays bytes s mem r (Err TraceTooLong) r mem
    unfolding replay_of
    replays_long h =
        let is =
        ap (λ x. replay_to x s mem r) e
        ∙ ap (λ x. lent_to x (leb (T.queues.count * room) (length mem)) T s mem r) (lt-leb (length s) most_bytes h) in
        record {
          reply = sym (ap (λ o. o.reply) is);
          steps = sym (ap (λ o. o.steps) is);
          lent = sym (ap (λ o. o.lent) is);
          queues = sym (ap (λ o. o.queues) is);
        }

    pub replays_short : length s ≤ most_bytes → length mem < T.queues.count * room → Replays bytes s mem r (Err MemoryShort) r mem
    unfolding replay_of
    replays_short h l =
        let is =
        ap (λ x. replay_to x s mem r) e
        ∙ ap₂ (λ x y. lent_to x y T s mem r) (le-leb (length s) most_bytes h) (lt-leb (T.queues.count * room) (length mem) l) in
        record {
          reply = sym (ap (λ o. o.reply) is);
          steps = sym (ap (λ o. o.steps) is);
          lent = sym (ap (λ o. o.lent) is);
          queues = sym (ap (λ o. o.queues) is);
        }

-- THE START, in memory that what waits was laid into
module _ (T : Tables) (V : Valid T) {mem₀ mem₁ : List ℕ} (l : Lays T.queues.lengths T.queues.contents T.queues.count mem₀ mem₁) where
  start_is : config_of T.machines T.queues (start_of T) mem₁ ≡ begin (session_of T).model
  start_is = ap (λ qs. record { control = number (sizes_of T.machines) (starts_of T.machines); queues = qs }) l.queues

  few_wait : (i : ℕ) → get_or T.queues.lengths i 0 ≤ room
  few_wait i =
      by_test (ltb i T.queues.count)
      (λ h. omega (arith, (V.queues.starting.words i (ltb-true _ _ h)).most))
      (λ h. omega (arith, V.queues.starting.lengths_rest i (ltb-false _ _ h)))

  start_holds : T.queues.count * room ≤ length mem₀ → Holds T.machines T.queues (start_of T) mem₁
  start_holds enough =
      record {
        states_long = V.machines.starts_long;
        placed = starts_are_states T.machines V.machines;
        rest = V.machines.starts_rest;
        ringed =
            record {
              heads_long = length-replicate {A = ℕ} most_queues 0;
              lengths_long = V.queues.starting.lengths_long;
              placed = λ i. omega (arith, zeros_hold most_queues i);
              held = few_wait;
              rest = V.queues.starting.lengths_rest;
            };
        contents = subst (Own 0 (counts_of T.queues)) (sym l.queues) (starting_own T.queues V.queues);
        enough = omega (arith, l.long);
      }

  -- at the end of a replay nothing tells the memory of the start from the one before
  same_end : (s : List ℕ) → ran_to T mem₀ (replayed (session_of T) s) ≡ ran_to T mem₁ (replayed (session_of T) s)
  same_end s =
      ap ends (subst (λ n. drop (n * room) mem₀ ≡ drop (n * room) mem₁) (sym count) (sym l.past))
    where
      -- where the replay ends, with these bytes past the queues
      ends : List ℕ → Outcome
      ends past =
          let e = replayed (session_of T) s in
          record { reply = ran e.why; steps = e.steps; lent = record_after T.machines e.last; queues = laid_all e.last.queues ++ past }

      count : length (replayed (session_of T) s).last.queues ≡ T.queues.count
      count = replayed_queues (session_of T) s ∙ each_length (starting_at T.queues.lengths T.queues.contents) T.queues.count 0

-- A FILE THAT IS READ, a trace that is not too long, memory enough
module _ (bytes s mem₀ : List ℕ) (r : RunRecord) {T : Tables} {next : ℕ} (e : read_file bytes ≡ got T next) (h : length s ≤ most_bytes)
    (enough : T.queues.count * room ≤ length mem₀) where
  V : Valid T
  V = valid bytes e

  -- what waits can be laid into the memory
  pub begins_layable : Layable T.queues mem₀
  begins_layable = record { queues = V.queues; enough = enough }

  module _ {mem₁ : List ℕ} (l : Lays T.queues.lengths T.queues.contents T.queues.count mem₀ mem₁) where
    pub begins_ready : Ready T s (opening (start_of T) mem₁)
    begins_ready =
        record {
          valid = V;
          holds = start_holds T V l enough;
          most = h;
          within = omega arith;
          counted = omega arith;
        }

    pub begins_ready_without_bad : Ready (without_bad T) s (opening (start_of T) mem₁)
    begins_ready_without_bad = ready_without_bad begins_ready

    -- in the file's tables with any bad entries
    all : (B : BadList) → rest (with_bad T B) s (opening (start_of T) mem₁) ≡ replayed (session_of T) s
    all B =
        ap₂ (λ k γ. replay_from (session_of (with_bad T B)) s k 0 0 γ) (sub-zero (length s)) (start_is T V l)
        ∙ with_bad_replayed T B s
        ∙ without_bad_replayed T s

    is : (B : BadList) → replay_of bytes s mem₀ r ≡ ran_to T mem₁ (rest (with_bad T B) s (opening (start_of T) mem₁))
    unfolding replay_of
    is B =
        ap (λ x. replay_to x s mem₀ r) e
        ∙ ap₂ (λ x y. lent_to x y T s mem₀ r) (le-leb (length s) most_bytes h) (le-leb (T.queues.count * room) (length mem₀) enough)
        ∙ same_end T V l s
        ∙ ap (ran_to T mem₁) (sym (all B))

    pub replays_ran_with_bad : (B : BadList) {a : Code.Ended} {r' : RunRecord} {mem' : List ℕ} → Ran (with_bad T B) s (start_of T) mem₁ a r' mem'
        → Replays bytes s mem₀ r (Ok a) r' mem'
    replays_ran_with_bad B F =
        record {
          reply = ap ran F.why ∙ sym (ap (λ o. o.reply) (is B));
          steps = F.steps ∙ sym (ap (λ o. o.steps) (is B));
          lent = F.lent ∙ sym (ap (λ o. o.lent) (is B));
          queues = F.memory ∙ sym (ap (λ o. o.queues) (is B));
        }

    pub replays_ran : {a : Code.Ended} {r' : RunRecord} {mem' : List ℕ} → Ran T s (start_of T) mem₁ a r' mem' → Replays bytes s mem₀ r (Ok a) r' mem'
    replays_ran = replays_ran_with_bad T.bad

    pub replays_ran_without_bad : {a : Code.Ended} {r' : RunRecord} {mem' : List ℕ} → Ran (without_bad T) s (start_of T) mem₁ a r' mem'
        → Replays bytes s mem₀ r (Ok a) r' mem'
    replays_ran_without_bad = replays_ran_with_bad (without_bad T).bad
