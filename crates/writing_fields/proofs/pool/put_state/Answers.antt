use Prim.Native.Nat.{ℕ}
use mathlib.Core.Path.{ap, ◌∙◌}
use mathlib.Core.List.{List}
use lib.ListN.{length}
use native.Mathlib.Omega.{arith}
use Rattle.theory_format.specs.Spelled.{counted, state}
use Rattle.writing_fields.specs.Parts.{arcs_in}
use Rattle.writing_fields.specs.Laws.Writers.{puts_then, puts_as, puts_found}
use Rattle.writing_fields.specs.Laws.Arcs.{row_most, row_arcs}
use Rattle.writing_fields.proofs.pool.put_state.Goals as goal

pub put_row-requires : goal.put_row-requires
put_row-requires c = let long = ap length c.row_of.ensures in
    record { room = omega (arith, c.number.ensures.put.within); row_len_bound = omega (arith, long, row_most c.args.arcs.now c.args.i c.args.sum) }

pub returns : goal.returns
unfolding state
returns c =
    puts_then (puts_found c.entry.ensures c.number.ensures)
    (puts_as (ap (λ (row : List ℕ). counted (arcs_in row)) c.row_of.ensures ∙ ap counted (row_arcs c.args.arcs.now c.args.i c.args.sum)) c.put_row.ensures)
    (omega arith)
