use Prim.Native.Nat.{ℕ}
use lib.ListN.{get_or}
use Rattle.theory_format.specs.Spelled.{number}
use Rattle.writing_fields.specs.Laws.Writers.{puts_found, rounds_on, rounds_end}
use Rattle.writing_fields.proofs.writer.Writer.entries.Goals as goal

pub loop-i-preserved : goal.loop-i-preserved
loop-i-preserved c =
    rounds_on (λ (k : ℕ). number (get_or c.args.table.now k 0)) 2 c.loop-i-test.true c.loop-i.invariant
    (puts_found c.entry.ensures c.number.ensures)

pub returns : goal.returns
returns c = rounds_end (λ (k : ℕ). number (get_or c.args.table.now k 0)) 2 c.loop-i-test.false c.loop-i.invariant
