-- What the answer of a lookup says.
use Rattle.std.specs.Prelude.{ℕ, Option, Some, None}
use Rattle.std.proofs.Math.Option.{none, some}
use Rattle.std.proofs.Math.Option as Math
use Rattle.tables.specs.declared.kinds.DiagramState.{DiagramState}

-- arc lookup: the target, or nowhere
abbrev pub said_arc : Option DiagramState → Math.Option ℕ
said_arc (Some t) = some t.0
said_arc None = none
