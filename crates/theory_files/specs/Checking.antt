-- Checking with lent memory (document 01, "When a file or a question is turned away" and "The verdict"): the reply, both scratch tables and
-- the contents buffer, for every file and whatever is lent.
use Rattle.std.specs.Prelude.{ℕ, ◌+◌, ◌≡◌, Bool, ◌&&◌, List, ◌++◌, length, drop, replicate, leb}
use Rattle.numbers.specs.Limits.{most_bytes}
use Rattle.numbers.specs.Part.{Part, provided}
use Rattle.tables.specs.Limits.{most_word, contents_least}
use Rattle.reading_file.specs.File.{read_file}
use Rattle.tables.specs.declared.tables.Tables.{Tables}
use Rattle.theory_files.specs.Reply.{FileReply, refused, verdict, reply_to, shown_of}
use Rattle.theory_files.specs.Claims.{Meant, TwoRunsTo}
use Rattle.numbers.specs.Refusals.{too_long, short_memory}

-- a scratch table needs so many entries
abbrev pub table_least : ℕ
table_least = 32512

-- the most messages that are shown: the shortest way to a pair that fails passes each pair of its step once, and a received word is
-- shown too
abbrev pub most_shown : ℕ
most_shown = table_least + most_word

-- is enough lent?
abbrev pub enough : List ℕ → List ℕ → List ℕ → Bool
enough seen queue contents =
    leb table_least (length seen) && (leb table_least (length queue) && leb contents_least (length contents))

-- what checking reads: 1, then 2, then the file from left to right
unfoldable pub read_lent : List ℕ → List ℕ → List ℕ → List ℕ → Part Tables
read_lent file seen queue contents =
    provided (leb (length file) most_bytes) too_long most_bytes (provided (enough seen queue contents) short_memory 0 (read_file file))

-- a scratch table at exit: as it was after a refusal, 0 over its whole lent length after a verdict
abbrev pub table_after : FileReply → List ℕ → List ℕ
table_after (refused k p) table = table
table_after (verdict v) table = replicate (length table) 0

-- the contents buffer at exit: the contents shown fill its front, the rest of it keeps its bytes
abbrev pub contents_after : FileReply → List ℕ → List ℕ
contents_after r contents = shown_of r ++ drop (length (shown_of r)) contents

pub record Checked : Type 0 where
  pub reply : FileReply
  pub seen : List ℕ
  pub queue : List ℕ
  pub contents : List ℕ

abbrev pub checked_after : FileReply → List ℕ → List ℕ → List ℕ → Checked
checked_after r seen queue contents =
    record { reply = r; seen = table_after r seen; queue = table_after r queue; contents = contents_after r contents }

-- CHECKING a file with a table of what was seen, a table of the queue, and a contents buffer
abbrev pub check_of : List ℕ → List ℕ → List ℕ → List ℕ → Checked
check_of file seen queue contents = checked_after (reply_to (read_lent file seen queue contents)) seen queue contents

-- WHAT CHECKING PROMISES of its reply and of all that it was lent: at entry with ₀, at exit with ₁
pub record Checks (file seen₀ queue₀ contents₀ : List ℕ) (r : FileReply) (seen₁ queue₁ contents₁ : List ℕ) : Type 0 where
  pub reply : r ≡ (check_of file seen₀ queue₀ contents₀).reply
  pub seen : seen₁ ≡ (check_of file seen₀ queue₀ contents₀).seen
  pub queue : queue₁ ≡ (check_of file seen₀ queue₀ contents₀).queue
  pub contents : contents₁ ≡ (check_of file seen₀ queue₀ contents₀).contents

-- demand 2 and demand 3 of checking's reply, refusal 2 among its cases
abbrev pub CheckMeans : List ℕ → List ℕ → List ℕ → List ℕ → FileReply → Type 0
CheckMeans file seen queue contents r = Meant (read_lent file seen queue contents) r

abbrev pub CheckTwoRuns : List ℕ → List ℕ → List ℕ → List ℕ → FileReply → List ℕ → Type 0
CheckTwoRuns file seen queue contents r ts = TwoRunsTo (read_lent file seen queue contents) r ts
