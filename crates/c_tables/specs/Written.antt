-- WRITING FROM FLAT BYTES: the reply and the whole buffer, for all bytes and every buffer. Fewer bytes than the tables have stand for none.
use Rattle.std.specs.Prelude.{ℕ, ◌≡◌, ◌↔◌, Bool, ◌&&◌, Result, List, length, take, leb}
use Rattle.tables.specs.declared.tables.Tables.{Tables}
use Rattle.theory_format.specs.Spelled.{spelled}
use Rattle.theory_format.specs.Readable.{Readable}
use Rattle.writing_file.specs.Write.{restored, WriteReply, refusal, write_reply, buffer_after, said_written}
use Rattle.writing_file.specs.declared.write.WriteRefusal.{WriteRefusal}
use Rattle.c_tables.specs.Flat.{flat, tables_least}
use Rattle.c_tables.specs.Taken.{tables_at}
use Rattle.numbers.specs.Refusals.{not_readable}

-- are there bytes enough, and do their tables come back?
abbrev pub restored_at : List ℕ → Bool
restored_at tables = leb tables_least (length tables) && restored (tables_at tables)

abbrev pub write_reply_at : List ℕ → List ℕ → WriteReply
write_reply_at tables buffer = write_reply (restored_at tables) (spelled (tables_at tables)) buffer

-- WHAT WRITING FROM FLAT BYTES PROMISES: the reply, the whole buffer, and that 16 is replied exactly if they begin with the flat tables of no file that is read
pub record WritesFlat (tables entry : List ℕ) (r : Result ℕ WriteRefusal) (exit : List ℕ) : Type 0 where
  pub reply : said_written r ≡ write_reply_at tables entry
  pub buffer : exit ≡ buffer_after (write_reply_at tables entry) (spelled (tables_at tables)) entry
  pub unread : (said_written r ≡ refusal not_readable 0) ↔ ((T : Tables) → Readable T → take tables_least tables ≡ flat T → ⊥)
