-- What a writer does: a text is put into its bytes from its place on, and the place goes past it.
use Rattle.std.specs.Prelude.{ℕ, ◌+◌, ◌≤◌, ◌≡◌, List}
use Rattle.numbers.specs.Put.{Put}
use Rattle.writing_fields.specs.Parts.{ample_place}
use Rattle.writing_fields.specs.declared.writer.Writer.{Writer}

-- so many bytes more stay below the ample place
abbrev pub Room : Writer → ℕ → Type 0
Room w most = w.place + most ≤ ample_place

-- the text was put, and the writer still has the same bytes
pub record Puts (w : Writer) (most : ℕ) (text : List ℕ) (x : Writer) : Type 0 where
  pub put : Put w.bytes.now w.place most text x.bytes.now x.place
  pub same : x.bytes.ghost_name ≡ w.bytes.ghost_name
