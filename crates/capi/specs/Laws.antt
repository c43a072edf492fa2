-- Laws of what is told, and of each call.
use Rattle.std.specs.Prelude.{ℕ, ◌*◌, ◌≤◌, ◌<◌, ◌≡◌, refl, Bool, true, false, ◌&&◌, List, ◌++◌, length, drop, leb, Result, Ok, Err}
use Rattle.std.proofs.Common.{sym, ap, ap₂, ◌∙◌, le-leb, arith}
use Rattle.std.proofs.lemmas.Bool.{lt-leb}
use Rattle.numbers.specs.Limits.{most_bytes}
use Rattle.numbers.specs.Part.{Part, got, refused}
use Rattle.reading_file.specs.Said.{read, refusal, said_answer}
use Rattle.reading_file.specs.File.{read_file, read_reply_of, tables_read, handed, Reads}
use Rattle.reading_file.specs.Valid.{Valid}
use Rattle.tables.specs.declared.tables.Tables.{Tables}
use Rattle.numbers.specs.declared.refusal.Refusal.{Refusal}
use Rattle.theory_model.specs.Laws.Basics.{is_and}
use Rattle.theory_files.specs.Reply.{shown_of}
use Rattle.theory_files.specs.Checking.{Checked, check_of, Checks}
use Rattle.verdicts.specs.Said.{said_verdict, shown_in}
use Rattle.verdicts.specs.declared.verdict.Verdict.{Verdict}
use Rattle.verdicts.specs.declared.verdict.Verdict.TheVariants.{Closed, Fails}
use Rattle.verdicts.specs.declared.verdict.Failing.TheVariants.{Outside, Leaves, Bad}
use Rattle.verdicts.specs.declared.verdict.CheckRefusal.{CheckRefusal}
use Rattle.checking_file.specs.Laws.Shows.{checks_shows}
use Rattle.membership.specs.Member.{member_of}
use Rattle.membership.specs.Said.{said_member}
use Rattle.membership.specs.Laws.Asking.{read_valid}
use Rattle.membership.specs.declared.reply.Member.{Member}
use Rattle.membership.specs.declared.reply.MemberRefusal.{MemberRefusal}
use Rattle.numbers.specs.Put.{Put}
use Rattle.replaying_step.specs.declared.runs.RunRecord.{RunRecord}
use Rattle.theory_replay.specs.Rules.{room as queueRoom}
use Rattle.replaying_trace.specs.Reply.{Reply, Outcome, lent_to, replay_to, replay_of, said_replay, steps_of, Replays}
use Rattle.replaying_trace.specs.declared.progress.Ended.{Ended}
use Rattle.replaying_trace.specs.declared.progress.ReplayRefusal.{ReplayRefusal}
use Rattle.theory_format.specs.Spelled.{spelled}
use Rattle.writing_file.specs.Write.{buffer_after, said_written}
use Rattle.writing_file.specs.declared.write.WriteRefusal.{WriteRefusal}
use Rattle.c_tables.specs.Flat.{flat, tables_least}
use Rattle.c_tables.specs.Taken.{tables_at}
use Rattle.c_tables.specs.Written.{write_reply_at, WritesFlat}
use Rattle.c_tables.specs.Laws.Put.{flat_front}
use Rattle.c_replies.specs.Told.{LEAVES, BAD, NO_QUEUE_ROOM, told_of, told_reply, told_answer, told_member, told_written, told_verdict, reply_least, reply_after, Tells}
use Rattle.c_replies.specs.Replays.{told_replay, record_least, run_after, blank}
use Rattle.capi.specs.Calls.{reply_fits, kind_if, keep_unless, space_after, outcome_of, replay_told, replay_fits, ReadCall, WriteCall, MemberCall, CheckCall, ReplayCall}
use Rattle.c_replies.specs.declared.told.Told.{Told}

-- QUEUE_ROOM FOR THE OUTPUT, or none
pub kind_none : (b : Bool) (t : Told) → b ≡ false → NO_QUEUE_ROOM ≡ kind_if b t
kind_none b t e = sym (ap (λ x. kind_if x t) e)

pub changed : (b : Bool) (before after : List ℕ) → b ≡ true → after ≡ keep_unless b after before
changed b before after e = sym (ap (λ x. keep_unless x after before) e)

pub kept : (b : Bool) (before after : List ℕ) → b ≡ false → before ≡ keep_unless b after before
kept b before after e = sym (ap (λ x. keep_unless x after before) e)

-- what is told where there is room
module _ (b : Bool) (room : b ≡ true) {t u : Told} {reply reply₁ : List ℕ} {r : ℕ} (same : t ≡ u) (w : Tells t reply reply₁ r) where
  pub tells_kind : r ≡ kind_if b u
  tells_kind = w.kind ∙ ap (λ (x : Told). x.kind) same ∙ sym (ap (λ x. kind_if x u) room)

  pub tells_reply : reply₁ ≡ keep_unless b (reply_after u reply) reply
  tells_reply = w.reply ∙ ap (λ (x : Told). reply_after x reply) same ∙ changed b reply (reply_after u reply) room

pub first_none : (a b : Bool) → a ≡ false → (a && b) ≡ false
first_none a b e = ap (λ x. x && b) e

pub second_none : (a b : Bool) → b ≡ false → (a && b) ≡ false
second_none true b e = e
second_none false b e = refl

-- READING
-- after a refusal the space is as it was
unread : (y : Part Tables) (space : List ℕ) {k p : ℕ} → refusal k p ≡ read_reply_of y → space ≡ space_after y space
unread (got T next) space e = absurd (let z : ◌≡◌ {A = ℕ} 0 1 = cc in omega arith)
unread (refused k p) space e = refl

-- the tables of a file that is read
filled : (y : Part Tables) {space space₁ : List ℕ} {z : ℕ} (T : Tables) → Valid T → T ≡ tables_read y → read ≡ read_reply_of y
    → tables_least ≤ length space → Put space 0 tables_least (flat T) space₁ z → space₁ ≡ space_after y space
filled (refused k p) T v same e h w = absurd (let z : ◌≡◌ {A = ℕ} 0 1 = cc in omega arith)
filled (got own next) {space} T v same e h w = flat_front T v h w ∙ ap (λ (x : Tables). flat x ++ drop tables_least space) same

abbrev room : List ℕ → List ℕ → Bool
room space reply = leb tables_least (length space) && reply_fits reply

module _ (file space reply : List ℕ) where
  read_none : room space reply ≡ false → ReadCall file space reply NO_QUEUE_ROOM space reply
  read_none e =
      record {
        kind = kind_none (room space reply) (told_answer (read_reply_of (read_file file))) e;
        space = kept (room space reply) space (space_after (read_file file) space) e;
        reply = kept (room space reply) reply (reply_after (told_answer (read_reply_of (read_file file))) reply) e;
      }

  pub read_short : length space < tables_least → ReadCall file space reply NO_QUEUE_ROOM space reply
  read_short h = read_none (first_none (leb tables_least (length space)) (reply_fits reply) (lt-leb tables_least (length space) h))

  pub read_unheard : length reply < reply_least → ReadCall file space reply NO_QUEUE_ROOM space reply
  read_unheard h = read_none (second_none (leb tables_least (length space)) (reply_fits reply) (lt-leb reply_least (length reply) h))

module _ {file space reply reply₁ : List ℕ} {t : Told} {r : ℕ} (h : tables_least ≤ length space) (l : reply_least ≤ length reply) (x : Result Tables Refusal) (reads : Reads (read_file file) x) (told : t ≡ told_answer (said_answer x)) (tells : Tells t reply reply₁ r) where
  called : {space₁ : List ℕ} → space₁ ≡ space_after (read_file file) space → ReadCall file space reply r space₁ reply₁
  called e =
      let roomy = is_and (leb tables_least (length space)) (reply_fits reply) (le-leb tables_least (length space) h) (le-leb reply_least (length reply) l) in
      let same = told ∙ ap told_answer reads.reply in
      record {
        kind = tells_kind (room space reply) roomy same tells;
        space = e ∙ changed (room space reply) space (space_after (read_file file) space) roomy;
        reply = tells_reply (room space reply) roomy same tells;
      }

  pub read_refused : {why : Refusal} → x ≡ Err why → ReadCall file space reply r space reply₁
  read_refused e = called (unread (read_file file) space (sym (ap said_answer e) ∙ reads.reply))

  pub read_filled : {space₁ : List ℕ} {z : ℕ} {T : Tables} → x ≡ Ok T → Put space 0 tables_least (flat T) space₁ z
      → ReadCall file space reply r space₁ reply₁
  read_filled {T = T} e w =
      let answered = sym (ap said_answer e) ∙ reads.reply in
      let same : T ≡ tables_read (read_file file) = sym (ap handed e) ∙ reads.tables in
      called (filled (read_file file) T (read_valid file answered same) same answered h w)

-- WRITING
module _ (tables buffer reply : List ℕ) where
  abbrev written : Told
  written = told_written (write_reply_at tables buffer)

  abbrev buffer_then : List ℕ
  buffer_then = buffer_after (write_reply_at tables buffer) (spelled (tables_at tables)) buffer

  pub write_unheard : length reply < reply_least → WriteCall tables buffer reply NO_QUEUE_ROOM buffer reply
  write_unheard h =
      let e = lt-leb reply_least (length reply) h in
      record {
        kind = kind_none (reply_fits reply) written e;
        reply = kept (reply_fits reply) reply (reply_after written reply) e;
        buffer = kept (reply_fits reply) buffer buffer_then e;
      }

  pub write_told : {buffer₁ reply₁ : List ℕ} {r : ℕ} {t : Told} → reply_least ≤ length reply → (w : Result ℕ WriteRefusal) → WritesFlat tables buffer w buffer₁
      → t ≡ told_written (said_written w) → Tells t reply reply₁ r → WriteCall tables buffer reply r buffer₁ reply₁
  write_told h w writes told tells =
      let e = le-leb reply_least (length reply) h in
      let same = told ∙ ap told_written writes.reply in
      record {
        kind = tells_kind (reply_fits reply) e same tells;
        reply = tells_reply (reply_fits reply) e same tells;
        buffer = writes.buffer ∙ changed (reply_fits reply) buffer buffer_then e;
      }

-- MEMBERSHIP
module _ (file : List ℕ) (control : ℕ) (contents reply : List ℕ) where
  pub member_unheard : length reply < reply_least → MemberCall file control contents reply NO_QUEUE_ROOM reply
  member_unheard h =
      let e = lt-leb reply_least (length reply) h in
      record {
        kind = kind_none (reply_fits reply) (told_member (member_of file control contents)) e;
        reply = kept (reply_fits reply) reply (reply_after (told_member (member_of file control contents)) reply) e;
      }

  pub member_told : {t : Told} {reply₁ : List ℕ} {r : ℕ} → reply_least ≤ length reply → (m : Result Member MemberRefusal) → said_member m ≡ member_of file control contents
      → t ≡ told_member (said_member m) → Tells t reply reply₁ r → MemberCall file control contents reply r reply₁
  member_told h m is told tells =
      let e = le-leb reply_least (length reply) h in
      let same = told ∙ ap told_member is in
      record { kind = tells_kind (reply_fits reply) e same tells; reply = tells_reply (reply_fits reply) e same tells }

-- CHECKING
told_verdict_lem : (v : Result Verdict CheckRefusal) (contents : List ℕ) → shown_in v ≡ length (shown_of (said_verdict v contents))
    → told_verdict v ≡ told_reply (said_verdict v contents)
told_verdict_lem (Ok (Closed n)) contents e = refl
told_verdict_lem (Ok (Fails Outside)) contents e = refl
told_verdict_lem (Ok (Fails (Leaves c t n f))) contents e = ap (λ (k : ℕ). told_of LEAVES c.0 t k f) e
told_verdict_lem (Ok (Fails (Bad b n))) contents e = ap (λ (k : ℕ). told_of BAD b k 0 0) e
told_verdict_lem (Err why) contents e = refl

module _ (file seen queue contents reply : List ℕ) where
  abbrev whole : Checked
  whole = check_of file seen queue contents

  pub check_unheard : length reply < reply_least → CheckCall file seen queue contents reply NO_QUEUE_ROOM seen queue contents reply
  check_unheard h =
      let e = lt-leb reply_least (length reply) h in
      record {
        kind = kind_none (reply_fits reply) (told_reply whole.reply) e;
        reply = kept (reply_fits reply) reply (reply_after (told_reply whole.reply) reply) e;
        seen = kept (reply_fits reply) seen whole.seen e;
        queue = kept (reply_fits reply) queue whole.queue e;
        contents = kept (reply_fits reply) contents whole.contents e;
      }

  pub check_told : {seen₁ queue₁ contents₁ reply₁ : List ℕ} {r : ℕ} {t : Told} → reply_least ≤ length reply → (v : Result Verdict CheckRefusal)
      → Checks file seen queue contents (said_verdict v contents₁) seen₁ queue₁ contents₁ → t ≡ told_verdict v
      → Tells t reply reply₁ r → CheckCall file seen queue contents reply r seen₁ queue₁ contents₁ reply₁
  check_told {contents₁ = contents₁} {t = t} h v checks told tells =
      let e = le-leb reply_least (length reply) h in
      let same : t ≡ told_reply whole.reply = told ∙ told_verdict_lem v contents₁ (checks_shows v checks).number ∙ ap told_reply checks.reply in
      record {
        kind = tells_kind (reply_fits reply) e same tells;
        reply = tells_reply (reply_fits reply) e same tells;
        seen = checks.seen ∙ changed (reply_fits reply) seen whole.seen e;
        queue = checks.queue ∙ changed (reply_fits reply) queue whole.queue e;
        contents = checks.contents ∙ changed (reply_fits reply) contents whole.contents e;
      }

-- REPLAYING
module _ (file trace memory run reply : List ℕ) where
  replay_none : replay_fits run reply ≡ false → ReplayCall file trace memory run reply NO_QUEUE_ROOM memory run reply
  replay_none e =
      let o = outcome_of file trace memory in
      record {
        kind = kind_none (replay_fits run reply) (replay_told file trace memory) e;
        reply = kept (replay_fits run reply) reply (reply_after (replay_told file trace memory) reply) e;
        run = kept (replay_fits run reply) run (run_after o.reply o.lent run) e;
        memory = kept (replay_fits run reply) memory o.queues e;
      }

  pub replay_short : length run < record_least → ReplayCall file trace memory run reply NO_QUEUE_ROOM memory run reply
  replay_short h = replay_none (first_none (leb record_least (length run)) (reply_fits reply) (lt-leb record_least (length run) h))

  pub replay_unheard : length reply < reply_least → ReplayCall file trace memory run reply NO_QUEUE_ROOM memory run reply
  replay_unheard h = replay_none (second_none (leb record_least (length run)) (reply_fits reply) (lt-leb reply_least (length reply) h))

  pub replay_told_lem : {memory₁ run₁ reply₁ : List ℕ} {r : ℕ} {t : Told} → record_least ≤ length run → reply_least ≤ length reply
      → (e : Result Ended ReplayRefusal) (after : RunRecord) → Replays file trace memory blank e after memory₁ → run₁ ≡ run_after (said_replay e) after run
      → t ≡ told_replay (said_replay e) (steps_of e) → Tells t reply reply₁ r
      → ReplayCall file trace memory run reply r memory₁ run₁ reply₁
  replay_told_lem {run₁ = run₁} {t = t} h l e after replays put told tells =
      let o = outcome_of file trace memory in
      let roomy = is_and (leb record_least (length run)) (reply_fits reply) (le-leb record_least (length run) h) (le-leb reply_least (length reply) l) in
      let same : t ≡ replay_told file trace memory = told ∙ ap₂ told_replay replays.reply replays.steps in
      let out : run₁ ≡ run_after o.reply o.lent run = put ∙ ap₂ (λ x y. run_after x y run) replays.reply replays.lent in
      record {
        kind = tells_kind (replay_fits run reply) roomy same tells;
        reply = tells_reply (replay_fits run reply) roomy same tells;
        run = out ∙ changed (replay_fits run reply) run (run_after o.reply o.lent run) roomy;
        memory = replays.queues ∙ changed (replay_fits run reply) memory o.queues roomy;
      }

-- what a call tells and leaves of a replay: the same from every record
abbrev visible : Outcome → List ℕ → Reply × ℕ × List ℕ × List ℕ
visible o run = (o.reply, o.steps, o.queues, run_after o.reply o.lent run)

visible_lent : (fits enough : Bool) (T : Tables) (s mem run : List ℕ) (r : RunRecord)
    → visible (lent_to fits enough T s mem r) run ≡ visible (lent_to fits enough T s mem blank) run
visible_lent false enough T s mem run r = refl
visible_lent true false T s mem run r = refl
visible_lent true true T s mem run r = refl

visible_read : (x : Part Tables) (s mem run : List ℕ) (r : RunRecord) → visible (replay_to x s mem r) run ≡ visible (replay_to x s mem blank) run
visible_read (refused k p) s mem run r = refl
visible_read (got T next) s mem run r = visible_lent (leb (length s) most_bytes) (leb (T.queues.count * queueRoom) (length mem)) T s mem run r

pub record_free : (file trace memory run : List ℕ) (r : RunRecord)
    → visible (replay_of file trace memory r) run ≡ visible (outcome_of file trace memory) run
unfolding replay_of
record_free file trace memory run r = visible_read (read_file file) trace memory run r
