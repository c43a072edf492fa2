-- The limit of every input (document 01, "When a file or a question is turned away").
use Rattle.std.specs.Prelude.{ℕ}

-- bytes of an input
abbrev pub most_bytes : ℕ
most_bytes = 16384
