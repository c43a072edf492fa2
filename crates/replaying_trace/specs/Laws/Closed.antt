-- A closed file never ends outside: what checking promises of every run says so of every trace.
use Rattle.std.specs.Prelude.{ℕ, ◌*◌, Bool, true, false, List, [], length, leb}
use Rattle.std.proofs.Math.Path.{◌≡◌, refl, sym}
use Rattle.std.proofs.Common.{ap, subst, ◌∙◌, arith}
use Rattle.numbers.specs.Limits.{most_bytes}
use Rattle.numbers.specs.Part as Part
use Rattle.numbers.specs.Laws.Parts.{provided_got}
use Rattle.tables.specs.declared.tables.Tables.{Tables}
use Rattle.reading_file.specs.File.{read_file}
use Rattle.theory_model.specs.Verdict.{closed}
use Rattle.theory_model.specs.TwoRuns.{Says}
use Rattle.theory_files.specs.Tables.{session_of}
use Rattle.theory_files.specs.Reply.{FileReply, refused, verdict}
use Rattle.theory_files.specs.Checking.{CheckTwoRuns, read_lent, enough}
use Rattle.theory_replay.specs.Rules.{room, Why, outside}
use Rattle.theory_replay.specs.Replay.{replayed}
use Rattle.theory_replay.specs.Laws.Meaning.{never_outside}
use Rattle.replaying_step.specs.declared.runs.RunRecord.{RunRecord}
use Rattle.replaying_trace.specs.Reply as Replaying

-- a reply that the replay ran, of one kind
pub ran_why : {w w' : Why} → Replaying.ran w ≡ Replaying.ran w' → w ≡ w'
ran_why e = cc

-- where a file that was read has a replay that ended outside, so has its session
lent_outside : (b c : Bool) (T : Tables) (s mem : List ℕ) (lent : RunRecord) {f : ℕ}
    → (Replaying.lent_to b c T s mem lent).reply ≡ Replaying.ran (outside f) → (replayed (session_of T) s).why ≡ outside f
lent_outside false c T s mem lent e = cc
lent_outside true false T s mem lent e = cc
lent_outside true true T s mem lent e = ran_why e

-- what checking read, if its reply is a verdict, is the file
module _ (bytes seen queue contents : List ℕ) (r : FileReply) (runs : (ts : List ℕ) → CheckTwoRuns bytes seen queue contents r ts) (k : ℕ)
    (e : r ≡ verdict (closed k)) where
  says : {T : Tables} {next : ℕ} → read_lent bytes seen queue contents ≡ Part.got T next → (ts : List ℕ) → Says (session_of T) ts (closed k)
  says {T} {next} x ts =
      let (v, is, two) = (runs ts).runs T next x in
      let same : verdict v ≡ verdict (closed k) = sym is ∙ e in
      let one : v ≡ closed k = cc in
      subst (Says (session_of T) ts) one two.says

  -- A CLOSED FILE: the reply r of a check with any memory lent, as its clause `two_runs` says it, and a replay of any trace with any memory and record:
  -- it does not end outside, whatever f
  pub closed_never_outside : (s mem : List ℕ) (lent : RunRecord) (f : ℕ) → (Replaying.replay_of bytes s mem lent).reply ≡ Replaying.ran (outside f) → ⊥
  unfolding Replaying.replay_of read_lent
  closed_never_outside s mem lent f out = go (read_lent bytes seen queue contents) refl
    where
      go : (x : Part.Part Tables) → read_lent bytes seen queue contents ≡ x → ⊥
      go (Part.refused j p) x =
          let other : refused j p ≡ verdict (closed k) = sym ((runs []).refuses j p x) ∙ e in
          let z : ◌≡◌ {A = ℕ} 0 1 = cc in
          absurd (omega arith)
      go (Part.got T next) x =
          let first = provided_got (leb (length bytes) most_bytes) 1 most_bytes _ x in
          let second = provided_got (enough seen queue contents) 2 0 (read_file bytes) first.1 in
          never_outside (session_of T) s k f (says x)
          (lent_outside (leb (length s) most_bytes) (leb (T.queues.count * room) (length mem)) T s mem lent
          (ap (λ y. (Replaying.replay_to y s mem lent).reply) (sym second.1) ∙ out))
