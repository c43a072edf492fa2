use Prim.Native.Nat.{ℕ, ◌<◌}
use mathlib.Core.Path.{ap₂}
use mathlib.Core.List.{◌++◌}
use native.Mathlib.Omega.{arith}
use Rattle.theory_format.specs.Spelled.{number, bad}
use Rattle.writing_fields.specs.Parts.{bad_entry}
use Rattle.writing_fields.specs.Laws.Writers.{puts_then, puts_as, rounds_on, rounds_end}
use borrow.Author.Rules.{rules}
use Rattle.writing_fields.proofs.sets.put_bad.Goals as goal

pub loop-b-preserved : goal.loop-b-preserved
loop-b-preserved c =
    rounds_on (bad_entry c.args.rows.now) 4 c.loop-b-test.true c.loop-b.invariant
    (puts_as (ap₂ (λ (x y : ℕ). number x ++ number y) c.entry.ensures c.entry-in-loop-b.ensures) c.two.ensures)

pub returns : goal.returns
unfolding bad
returns c =
    let few : c.args.count < 256 = search rules in
    puts_then c.number.ensures (rounds_end (bad_entry c.args.rows.now) 4 c.loop-b-test.false c.loop-b.invariant) (omega arith)
