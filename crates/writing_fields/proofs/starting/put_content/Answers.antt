use Prim.Native.Nat.{ℕ, ◌*◌, ◌<◌}
use mathlib.Core.Path.{ap}
use native.Mathlib.Omega.{arith}
use Rattle.tables.specs.Limits.{most_starting}
use Rattle.theory_format.specs.Spelled.{entries, content}
use Rattle.writing_fields.specs.Laws.Writers.{puts_then, puts_as, puts_found}
use borrow.Author.Rules.{rules}
use Rattle.writing_fields.proofs.starting.put_content.Goals as goal

pub returns : goal.returns
unfolding content
returns c =
    let few : c.entry-length.result < 256 = search rules in
    puts_then (puts_found c.entry-length.ensures c.number.ensures)
    (puts_as (ap (λ (k : ℕ). entries c.args.table.now k (c.args.i * most_starting)) c.entry-length.ensures) c.entries.ensures) (omega arith)
