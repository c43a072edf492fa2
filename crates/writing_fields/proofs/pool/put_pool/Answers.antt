use borrow.Author.Rules.{rules}
use Prim.Native.Nat.{◌<◌}
use native.Mathlib.Omega.{arith}
use Rattle.theory_format.specs.Spelled.{state, pool}
use Rattle.writing_fields.specs.Laws.Writers.{puts_then, rounds_on, rounds_end}
use Rattle.writing_fields.proofs.pool.put_pool.Goals as goal

pub loop-i-preserved : goal.loop-i-preserved
loop-i-preserved c = rounds_on (state _ _ _) 1024 c.loop-i-test.true c.loop-i.invariant c.put_state.ensures

pub returns : goal.returns
unfolding pool
returns c =
    let few : c.args.t.now.head.states < 256 = search rules in
    puts_then c.number.ensures (rounds_end (state _ _ _) 1024 c.loop-i-test.false c.loop-i.invariant) (omega arith)
