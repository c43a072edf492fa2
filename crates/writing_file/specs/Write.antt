-- WRITING TABLES OUT (document 02, change 5): the reply and the whole buffer, for every table and every buffer.
use Rattle.std.specs.Prelude.{ℕ, ◌≡◌, ◌↔◌, Bool, false, cond, Result, Ok, Err, List, ◌++◌, length, drop, leb}
use Rattle.numbers.specs.Part.{Part, got, refused}
use Rattle.tables.specs.declared.tables.Tables.{Tables}
use Rattle.reading_file.specs.File.{read_file}
use Rattle.theory_format.specs.Spelled.{spelled}
use Rattle.theory_format.specs.Readable.{Readable}
use Rattle.comparison.specs.Same.{same_tables}
use Rattle.writing_file.specs.declared.write.WriteRefusal.{WriteRefusal}
use Rattle.writing_file.specs.declared.write.WriteRefusal.TheVariants.{NotReadable, TooShort}
use Rattle.numbers.specs.Refusals.{not_readable, buffer_short}

-- did reading give these tables?
abbrev pub gives : Part Tables → Tables → Bool
gives (got U next) T = same_tables T U
gives (refused k p) T = false

-- the bytes that tables spell are read into them again. `Laws.Restored.restored_exactly`: some byte string is read into them
unfoldable pub restored : Tables → Bool
restored T = gives (read_file (spelled T)) T

-- the length that was written, or a refusal: its number and its place
pub data WriteReply : Type 0 where
  wrote : ℕ → WriteReply
  refusal : ℕ → ℕ → WriteReply

-- 16 for tables that no file is read into, then 17 for a buffer too short
abbrev pub write_reply : Bool → List ℕ → List ℕ → WriteReply
write_reply readable w buffer =
    cond readable (cond (leb (length w) (length buffer)) (wrote (length w)) (refusal buffer_short 0)) (refusal not_readable 0)

-- the buffer: the bytes, and past them as it was; after a refusal all of it
abbrev pub buffer_after : WriteReply → List ℕ → List ℕ → List ℕ
buffer_after (wrote n) w buffer = w ++ drop n buffer
buffer_after (refusal k p) w buffer = buffer

-- the number of a refusal
abbrev pub refusal_number : WriteRefusal → ℕ
refusal_number NotReadable = not_readable
refusal_number TooShort = buffer_short

abbrev pub said_written : Result ℕ WriteRefusal → WriteReply
said_written (Ok n) = wrote n
said_written (Err e) = refusal (refusal_number e) 0

-- WHAT WRITING PROMISES: the reply, the whole buffer, and that 16 is replied exactly if no byte string is read into these tables
pub record Writes (T : Tables) (entry : List ℕ) (r : Result ℕ WriteRefusal) (exit : List ℕ) : Type 0 where
  pub reply : said_written r ≡ write_reply (restored T) (spelled T) entry
  pub buffer : exit ≡ buffer_after (write_reply (restored T) (spelled T) entry) (spelled T) entry
  pub unread : (said_written r ≡ refusal not_readable 0) ↔ (Readable T → ⊥)
