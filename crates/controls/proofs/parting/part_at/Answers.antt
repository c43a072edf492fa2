use Prim.Native.Nat.{◌≤◌, ◌<◌, ◌+◌}
use mathlib.Core.Path.{◌≡◌, subst, sym, ap, ◌∙◌}
use lib.ListN.{drop}
use native.Mathlib.Omega.{arith}
use Rattle.theory_model.specs.Model.{sizes_product}
use Rattle.controls.specs.Controls.{sizes_of}
use Rattle.controls.specs.Laws.Parting.{Front, front_begin, front_step, front_end, sizes_stepped, sizes_length, sizes_product_lem, sizes_small}
use Rattle.controls.proofs.parting.part_at.Goals as goal

pub loop-i-init : goal.loop-i-init
loop-i-init c =
    let m = c.args.m in
    let below : c.args.c.0 < sizes_product (sizes_of m) = omega (arith, sizes_product_lem m c.requires.machines_valid, c.requires.c_lt_product) in
    subst (λ n. Front (sizes_of m) c.args.c.0 c.args.machine 0 0 n) (sym c.wide-rest.ensures.same) (front_begin _ _ c.args.machine below)

pub product_from-stride-requires-clause-stepped : goal.product_from-stride-requires-clause-stepped
product_from-stride-requires-clause-stepped c = sizes_stepped c.args.m c.requires.machines_valid

pub nonzero_div-base : goal.nonzero_div-base
nonzero_div-base c = omega (arith, c.product_from-stride.ensures, (sizes_small c.args.m c.requires.machines_valid (c.loop-i.i + 1)).0)

pub nonzero_rem-rest : goal.nonzero_rem-rest
nonzero_rem-rest c = omega (arith, c.product_from-stride.ensures, (sizes_small c.args.m c.requires.machines_valid (c.loop-i.i + 1)).0)

pub loop-i-preserved : goal.loop-i-preserved
loop-i-preserved c =
    let v = c.requires.machines_valid in
    let pos : 1 ≤ c.product_from-stride.result = omega (arith, c.product_from-stride.ensures, (sizes_small c.args.m v (c.loop-i.i + 1)).0) in
    front_step _ _ _ _ _ _ c.loop-i.invariant (omega (arith, c.wide-i-end.ensures.same, c.loop-i-test.true)) (omega (arith, sizes_length c.args.m v, c.requires.machine_lt_count)) _ c.product_from-stride.ensures pos

pub product_from-stride-requires-2-clause-stepped : goal.product_from-stride-requires-2-clause-stepped
product_from-stride-requires-2-clause-stepped c = sizes_stepped c.args.m c.requires.machines_valid

pub returns : goal.returns
returns c =
    let m = c.args.m in
    let v = c.requires.machines_valid in
    let machine = c.args.machine in
    let e : c.loop-i.i ≡ machine = omega (arith, c.wide-i-end.ensures.same, c.loop-i.auto.i-end, c.loop-i-test.false) in
    let f = subst (λ n. Front (sizes_of m) c.args.c.0 machine n c.loop-i.base c.loop-i.rest) e c.loop-i.invariant in
    let p = c.product_from-stride-2.ensures ∙ ap (λ n. sizes_product (drop (n + 1) (sizes_of m))) c.wide.ensures.same in
    let small = sizes_small m v (machine + 1) in
    front_end _ _ _ _ _ f (omega (arith, sizes_length m v, c.requires.machine_lt_count)) (omega (arith, v.product_most, c.requires.c_lt_product)) _ p (omega (arith, p, small.0)) (omega (arith, p, small.1))
