-- Answering a file with lent memory: the line of the reply that checking gives, and all that was lent.
use Rattle.std.specs.Prelude.{ℕ, ◌+◌, ◌*◌, ◌≡◌, List, ◌++◌, length, drop, leb}
use Rattle.theory_files.specs.Reply.{FileReply, shown_of, line_of, reply_of}
use Rattle.theory_files.specs.Checking.{check_of, most_shown}
use Rattle.checking_line.specs.Said.{given}

-- the line of a reply, where so many bytes have room for any line that shows so many messages; else nothing
abbrev pub line_in : ℕ → FileReply → List ℕ
line_in room r = given (leb (4 * length (shown_of r) + 52) room) (line_of r)

-- WHAT ANSWERING PROMISES: at entry with ₀, at exit with ₁. The line fills the front of the line's buffer and the rest keeps its bytes;
-- r is its length
pub record Answers (file seen₀ queue₀ contents₀ buffer₀ seen₁ queue₁ contents₁ buffer₁ : List ℕ) (r : ℕ) : Type 0 where
  pub reply : r ≡ length (line_in (length buffer₀) (check_of file seen₀ queue₀ contents₀).reply)
  pub buffer : buffer₁ ≡ line_in (length buffer₀) (check_of file seen₀ queue₀ contents₀).reply
      ++ drop (length (line_in (length buffer₀) (check_of file seen₀ queue₀ contents₀).reply)) buffer₀
  pub seen : seen₁ ≡ (check_of file seen₀ queue₀ contents₀).seen
  pub queue : queue₁ ≡ (check_of file seen₀ queue₀ contents₀).queue
  pub contents : contents₁ ≡ (check_of file seen₀ queue₀ contents₀).contents

-- WITH MEMORY ENOUGH FOR THE CHECK: the line of the reply to the file, where the buffer has room for it, fills the front of the buffer, and r
-- is its length
pub record Lines (file buffer₀ buffer₁ : List ℕ) (r : ℕ) : Type 0 where
  pub reply : r ≡ length (line_in (length buffer₀) (reply_of file))
  pub buffer : buffer₁ ≡ line_in (length buffer₀) (reply_of file) ++ drop (length (line_in (length buffer₀) (reply_of file))) buffer₀

-- so many bytes hold any line: the most messages that are shown, each a space and at most three digits, and 52 for the rest
abbrev pub most_line : ℕ
most_line = 4 * most_shown + 52

-- WHAT THE PROGRAM PRINTS, with a buffer of so many bytes: the line of the reply to the file
pub record WholeLine (file buffer₀ buffer₁ : List ℕ) (r : ℕ) : Type 0 where
  pub reply : r ≡ length (line_of (reply_of file))
  pub buffer : buffer₁ ≡ line_of (reply_of file) ++ drop (length (line_of (reply_of file))) buffer₀
  pub long : length buffer₁ ≡ most_line
