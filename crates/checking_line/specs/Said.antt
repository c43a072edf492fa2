-- When a buffer has room for the line of a verdict, and what writing the line promises.
use Rattle.std.specs.Prelude.{ℕ, ◌+◌, ◌*◌, ◌≤◌, ◌≡◌, Bool, true, false, ◌&&◌, List, [], ◌++◌, length, drop, leb, Result}
use Rattle.theory_files.specs.Reply.{line_of}
use Rattle.verdicts.specs.Said.{said_verdict, shown_in}
use Rattle.verdicts.specs.declared.verdict.Verdict.{Verdict}
use Rattle.verdicts.specs.declared.verdict.CheckRefusal.{CheckRefusal}
use Rattle.numbers.specs.Put.{Put}
use Rattle.tables.specs.Limits.{contents_least}

-- the contents hold the messages shown, and the buffer holds any line that shows so many
abbrev pub holds : ℕ → ℕ → ℕ → Bool
holds room contents shown = leb shown contents && (leb shown contents_least && leb (4 * shown + 52) room)

pub record LineRoom (room contents shown : ℕ) (r : Bool) : Type 0 where
  pub is : r ≡ holds room contents shown

-- the text where there is room for a line that shows so many messages, else nothing
abbrev pub given : Bool → List ℕ → List ℕ
given true text = text
given false text = []

abbrev pub printed : List ℕ → List ℕ → ℕ → List ℕ → List ℕ
printed buffer contents shown text = given (holds (length buffer) (length contents) shown) text

-- the text fills the front of the buffer and the rest keeps its bytes; r is its length. Without room r is 0 and nothing is touched
pub record Lined (entry contents : List ℕ) (shown : ℕ) (text exit : List ℕ) (r : ℕ) : Type 0 where
  pub reply : r ≡ length (printed entry contents shown text)
  pub buffer : exit ≡ printed entry contents shown text ++ drop (length (printed entry contents shown text)) entry

-- WHAT WRITING A LINE PROMISES
pub record Writes (entry : List ℕ) (v : Result Verdict CheckRefusal) (contents exit : List ℕ) (r : ℕ) : Type 0 where
  pub line : Lined entry contents (shown_in v) (line_of (said_verdict v contents)) exit r

-- the buffer has room for a line that shows so many messages, and the contents hold them
pub record Fits (buffer contents : List ℕ) (shown : ℕ) : Type 0 where
  pub messages : shown ≤ length contents
  pub line : 4 * shown + 52 ≤ length buffer

-- the line stands at the front of a buffer that has room for it
pub record PutsLine (entry : List ℕ) (v : Result Verdict CheckRefusal) (contents exit : List ℕ) (r : ℕ) : Type 0 where
  pub put : Put entry 0 (4 * shown_in v + 52) (line_of (said_verdict v contents)) exit r
