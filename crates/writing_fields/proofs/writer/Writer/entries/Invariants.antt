use Prim.Native.Nat.{ℕ, ◌+◌}
use lib.ListN.{get_or}
use Rattle.theory_format.specs.Spelled.{number}
use Rattle.writing_fields.specs.Laws.Writers.{Rounds}
use Rattle.writing_fields.proofs.writer.Writer.entries.Given as goal

abbrev pub invariant-loop-i : goal.invariant-loop-i
invariant-loop-i l = Rounds (λ (k : ℕ). number (get_or l.table k 0)) 2 l.first l.count (l.first + l.count) l.initial.self l.i l.self
