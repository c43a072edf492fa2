use native.Mathlib.Omega.{arith}
use native.Mathlib.Nat.{mul-le-mul, le_of_lt, mod-lt}
use Rattle.controls.specs.Laws.Parting.{moved_made}
use Rattle.controls.proofs.moves.moved.Goals as goal

pub overflow_mul-wide : goal.overflow_mul-wide
overflow_mul-wide c = omega (arith, mul-le-mul (le_of_lt c.wide.ensures.small) c.part_at-p.ensures.small.2)

pub overflow_add-wide : goal.overflow_add-wide
overflow_add-wide c = omega (arith, mul-le-mul (le_of_lt c.wide.ensures.small) c.part_at-p.ensures.small.2, mod-lt c.part_at-p.result.rest c.part_at-p.ensures.positive, c.part_at-p.ensures.small)

pub overflow_add-p : goal.overflow_add-p
overflow_add-p c = omega (arith, mul-le-mul (le_of_lt c.wide.ensures.small) c.part_at-p.ensures.small.2, mod-lt c.part_at-p.result.rest c.part_at-p.ensures.positive, c.part_at-p.ensures.small)

pub returns : goal.returns
returns c =
    let w = c.wide.ensures.same in
    let p = c.requires in
    rw w at (moved_made c.args.m p.machines_valid c.args.c.0 _ c.wide.result p.c_lt_product p.row_bound (omega (arith, w, p.row_bound_2)) (c.part_at-p.ensures.moved c.wide.result) c.new.ensures)
