-- WHAT EACH CALL PROMISES, for every input and whatever is lent: the kind of the reply, and all lent memory at exit. With ₀ at entry, with ₁
-- at exit. Too little output space is told by a kind of its own, and then nothing is touched.
use Rattle.std.specs.Prelude.{ℕ, ◌≡◌, Bool, true, false, ◌&&◌, List, ◌++◌, length, drop, leb}
use Rattle.numbers.specs.Part.{Part, got, refused}
use Rattle.reading_file.specs.File.{read_file, read_reply_of}
use Rattle.tables.specs.declared.tables.Tables.{Tables}
use Rattle.theory_files.specs.Checking.{check_of}
use Rattle.membership.specs.Member.{member_of}
use Rattle.replaying_trace.specs.Reply.{Outcome, replay_of}
use Rattle.theory_format.specs.Spelled.{spelled}
use Rattle.writing_file.specs.Write.{buffer_after}
use Rattle.c_tables.specs.Flat.{flat, tables_least}
use Rattle.c_tables.specs.Taken.{tables_at}
use Rattle.c_tables.specs.Written.{write_reply_at}
use Rattle.c_replies.specs.Told.{NO_QUEUE_ROOM, told_reply, told_answer, told_member, told_written, reply_least, reply_after}
use Rattle.c_replies.specs.Replays.{told_replay, run_after, record_least, blank}
use Rattle.c_replies.specs.declared.told.Told.{Told}
use Rattle.expression.specs.Expression.{expression}
use Rattle.c_expression.specs.Drawn.{told_drawn, pool_least, pool_after}

-- THE NUMBER OF THE LAYOUT: a layout of tables that differs in any entry, or another reply, has another. 1 had words of four messages, 2 replies of three
-- numbers, 3 no starting contents
abbrev pub layout : ℕ
layout = 4

-- is there space for a reply?
abbrev pub reply_fits : List ℕ → Bool
reply_fits reply = leb reply_least (length reply)

-- the kind that is told, and the reply's space at exit
abbrev pub kind_if : Bool → Told → ℕ
kind_if true t = t.kind
kind_if false t = NO_QUEUE_ROOM

abbrev pub keep_unless : Bool → List ℕ → List ℕ → List ℕ
keep_unless true after before = after
keep_unless false after before = before

-- the space for tables at exit: they fill its front; after a refusal it is as it was
abbrev pub space_after : Part Tables → List ℕ → List ℕ
space_after (got T next) space = flat T ++ drop tables_least space
space_after (refused k p) space = space

pub record ReadCall (file space₀ reply₀ : List ℕ) (r : ℕ) (space₁ reply₁ : List ℕ) : Type 0 where
  pub kind : r ≡ kind_if (leb tables_least (length space₀) && reply_fits reply₀) (told_answer (read_reply_of (read_file file)))
  pub space : space₁ ≡ keep_unless (leb tables_least (length space₀) && reply_fits reply₀) (space_after (read_file file) space₀) space₀
  pub reply : reply₁ ≡ keep_unless (leb tables_least (length space₀) && reply_fits reply₀) (reply_after (told_answer (read_reply_of (read_file file))) reply₀) reply₀

pub record WriteCall (tables buffer₀ reply₀ : List ℕ) (r : ℕ) (buffer₁ reply₁ : List ℕ) : Type 0 where
  pub kind : r ≡ kind_if (reply_fits reply₀) (told_written (write_reply_at tables buffer₀))
  pub reply : reply₁ ≡ keep_unless (reply_fits reply₀) (reply_after (told_written (write_reply_at tables buffer₀)) reply₀) reply₀
  pub buffer : buffer₁ ≡ keep_unless (reply_fits reply₀) (buffer_after (write_reply_at tables buffer₀) (spelled (tables_at tables)) buffer₀) buffer₀

pub record MemberCall (file : List ℕ) (control : ℕ) (contents reply₀ : List ℕ) (r : ℕ) (reply₁ : List ℕ) : Type 0 where
  pub kind : r ≡ kind_if (reply_fits reply₀) (told_member (member_of file control contents))
  pub reply : reply₁ ≡ keep_unless (reply_fits reply₀) (reply_after (told_member (member_of file control contents)) reply₀) reply₀

pub record CheckCall (file seen₀ queue₀ contents₀ reply₀ : List ℕ) (r : ℕ) (seen₁ queue₁ contents₁ reply₁ : List ℕ) : Type 0 where
  pub kind : r ≡ kind_if (reply_fits reply₀) (told_reply (check_of file seen₀ queue₀ contents₀).reply)
  pub reply : reply₁ ≡ keep_unless (reply_fits reply₀) (reply_after (told_reply (check_of file seen₀ queue₀ contents₀).reply) reply₀) reply₀
  pub seen : seen₁ ≡ keep_unless (reply_fits reply₀) (check_of file seen₀ queue₀ contents₀).seen seen₀
  pub queue : queue₁ ≡ keep_unless (reply_fits reply₀) (check_of file seen₀ queue₀ contents₀).queue queue₀
  pub contents : contents₁ ≡ keep_unless (reply_fits reply₀) (check_of file seen₀ queue₀ contents₀).contents contents₀

-- the replay that a call is about, and what it tells
abbrev pub outcome_of : List ℕ → List ℕ → List ℕ → Outcome
outcome_of file trace memory = replay_of file trace memory blank

abbrev pub replay_told : List ℕ → List ℕ → List ℕ → Told
replay_told file trace memory = told_replay (outcome_of file trace memory).reply (outcome_of file trace memory).steps

-- is there space for the numbers of the record, and for a reply?
abbrev pub replay_fits : List ℕ → List ℕ → Bool
replay_fits run reply = leb record_least (length run) && reply_fits reply

pub record ReplayCall (file trace memory₀ run₀ reply₀ : List ℕ) (r : ℕ) (memory₁ run₁ reply₁ : List ℕ) : Type 0 where
  pub kind : r ≡ kind_if (replay_fits run₀ reply₀) (replay_told file trace memory₀)
  pub reply : reply₁ ≡ keep_unless (replay_fits run₀ reply₀) (reply_after (replay_told file trace memory₀) reply₀) reply₀
  pub run : run₁ ≡ keep_unless (replay_fits run₀ reply₀) (run_after (outcome_of file trace memory₀).reply (outcome_of file trace memory₀).lent run₀) run₀
  pub memory : memory₁ ≡ keep_unless (replay_fits run₀ reply₀) (outcome_of file trace memory₀).queues memory₀

-- the pool that a call is about; is there space for it, and for a reply?
abbrev pub drawn_told : List ℕ → Told
drawn_told text = told_drawn (expression text).reply (expression text).pool.count

abbrev pub drawn_fits : List ℕ → List ℕ → Bool
drawn_fits pool reply = leb pool_least (length pool) && reply_fits reply

pub record ExpressionCall (text pool₀ reply₀ : List ℕ) (r : ℕ) (pool₁ reply₁ : List ℕ) : Type 0 where
  pub kind : r ≡ kind_if (drawn_fits pool₀ reply₀) (drawn_told text)
  pub pool : pool₁ ≡ keep_unless (drawn_fits pool₀ reply₀) (pool_after (expression text).reply (expression text).pool pool₀) pool₀
  pub reply : reply₁ ≡ keep_unless (drawn_fits pool₀ reply₀) (reply_after (drawn_told text) reply₀) reply₀
