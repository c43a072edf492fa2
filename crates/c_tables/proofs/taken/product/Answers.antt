use Prim.Native.Nat.{◌<◌}
use native.Mathlib.Omega.{arith}
use lib.ListN.{get_or, length-take}
use Rattle.c_tables.specs.Laws.Products.{multiplied_none, multiplied_front, multiplied_most}
use Rattle.c_tables.proofs.taken.product.Goals as goal

pub loop-size-init : goal.loop-size-init
loop-size-init c = multiplied_none _

pub overflow_mul-product : goal.overflow_mul-product
overflow_mul-product c =
    let few : get_or c.args.states.now c.loop-size.size-index 0 < 256 = omega (arith, c.type_inv.states c.loop-size.size-index) in
    omega (arith, multiplied_most (multiplied_front c.args.states.now c.args.count c.loop-size.size-index c.loop-size.invariant c.loop-size-test.true few) (omega (arith, length-take c.args.count c.args.states.now)))

pub loop-size-preserved : goal.loop-size-preserved
loop-size-preserved c =
    let few : get_or c.args.states.now c.loop-size.size-index 0 < 256 = omega (arith, c.type_inv.states c.loop-size.size-index) in
    multiplied_front c.args.states.now c.args.count c.loop-size.size-index c.loop-size.invariant c.loop-size-test.true few
