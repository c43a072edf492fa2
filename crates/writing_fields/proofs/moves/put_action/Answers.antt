use Prim.Native.Nat.{ℕ, ◌<◌}
use mathlib.Core.Path.{ap}
use native.Mathlib.Omega.{arith}
use Rattle.tables.specs.Rows.{word_entry}
use Rattle.theory_format.specs.Spelled.{action, entries}
use Rattle.writing_fields.specs.Laws.Writers.{puts_then, puts_as, puts_found}
use borrow.Author.Rules.{rules}
use Rattle.writing_fields.proofs.moves.put_action.Goals as goal

pub returns : goal.returns
unfolding action
returns c =
    let few : c.entry-length.result < 256 = search rules in
    puts_then (puts_found c.entry.ensures c.number.ensures)
    (puts_then {most = 512} (puts_found c.entry-length.ensures c.number-2.ensures)
    (puts_as (ap (λ (k : ℕ). entries c.args.rows.now k (word_entry c.args.row)) c.entry-length.ensures)
    c.entries.ensures) (omega arith)) (omega arith)
