use borrow.Author.Rules.{rules}
use Prim.Native.Nat.{◌<◌}
use native.Mathlib.Omega.{arith}
use Rattle.theory_format.specs.Spelled.{transitions}
use Rattle.writing_fields.specs.Parts.{transition_of}
use Rattle.writing_fields.specs.Laws.Writers.{puts_then, rounds_on, rounds_end}
use Rattle.writing_fields.proofs.moves.put_transitions.Goals as goal

pub loop-t-preserved : goal.loop-t-preserved
loop-t-preserved c = rounds_on (transition_of c.args.rows.now) 522 c.loop-t-test.true c.loop-t.invariant c.put_transition.ensures

pub returns : goal.returns
unfolding transitions
returns c =
    let few : c.args.count < 256 = search rules in
    puts_then c.number.ensures (rounds_end (transition_of c.args.rows.now) 522 c.loop-t-test.false c.loop-t.invariant) (omega arith)
