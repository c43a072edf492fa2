-- The reply to a file (document 01): its refusal, or the verdict on the session that it describes; and the line that the program prints.
use Rattle.std.specs.Prelude.{ℕ, List, []}
use Rattle.numbers.specs.Part as Part
use Rattle.reading_file.specs.File.{read_file}
use Rattle.tables.specs.declared.tables.Tables.{Tables}
use Rattle.theory_model.specs.Verdict.{Reply, closed, outside, leaves, bad}
use Rattle.theory_model.specs.Judge as Judge
use Rattle.theory_model.specs.Line.{line, refused_line}
use Rattle.theory_files.specs.Tables.{session_of}

pub data FileReply : Type 0 where
  -- a number of the table in "When a file or a question is turned away", and a place
  refused : ℕ → ℕ → FileReply
  verdict : Reply → FileReply

-- what is replied to the tables, or to the refusal, that reading gives
abbrev pub reply_to : Part.Part Tables → FileReply
reply_to (Part.got T next) = verdict (Judge.verdict (session_of T))
reply_to (Part.refused k p) = refused k p

-- THE REPLY TO A BYTE STRING
unfoldable pub reply_of : List ℕ → FileReply
reply_of s = reply_to (read_file s)

-- the contents that a reply shows
abbrev pub shown_of : FileReply → List ℕ
shown_of (refused k p) = []
shown_of (verdict (closed n)) = []
shown_of (verdict outside) = []
shown_of (verdict (leaves c t w f)) = w
shown_of (verdict (bad b w)) = w

-- THE LINE that the program prints
abbrev pub line_of : FileReply → List ℕ
line_of (refused k p) = refused_line k p
line_of (verdict r) = line r
