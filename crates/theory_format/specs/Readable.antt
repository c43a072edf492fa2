-- Tables that some file is read into. `proofs/Whole.readable_exactly` says that these are the valid ones.
use Rattle.std.specs.Prelude.{ℕ, ◌<◌, ◌≡◌, List, get_or}
use Rattle.numbers.specs.Part.{got}
use Rattle.tables.specs.declared.tables.Tables.{Tables}
use Rattle.reading_file.specs.File.{read_file}

-- a byte string
pub record Bytes (s : List ℕ) : Type 0 where
  pub small : (k : ℕ) → get_or s k 0 < 256

pub record Readable (T : Tables) : Type 0 where
  pub file : List ℕ
  pub bytes : Bytes file
  pub end : ℕ
  pub read : read_file file ≡ got T end
